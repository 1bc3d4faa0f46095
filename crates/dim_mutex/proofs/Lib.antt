mod Watching
mod Between
mod Held
mod Changes
mod Replies
mod Asked
mod Turns
mod Starting
mod Settling
mod Listed
mod Carrying
pub mod Exports
