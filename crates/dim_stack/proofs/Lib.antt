mod Filling
mod Frames
mod Ordered
mod NumberLemmas
mod TableLemmas
pub mod Exports
