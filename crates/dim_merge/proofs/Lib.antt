mod Counted
mod Counting
mod Different
mod Going
mod Merged
mod Naming
mod Reading
mod Sizing
