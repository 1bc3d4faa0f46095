mod Tops
mod Callers
mod Leads
mod Stacks
mod Known
mod Words
mod Stands
mod Asks
mod Turns
mod Following
mod OwnModes
mod OwnWalks
mod OwnHolds
mod OwnStacks
mod NamedFrames
mod Courses
mod AtPlaces
pub mod Exports
