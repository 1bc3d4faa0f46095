mod Kept
mod Numbers
mod Ordered
mod Placed
mod SortLemmas
pub mod Exports
