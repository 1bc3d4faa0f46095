mod Cutting
mod Digits
mod Equal
mod NameLemmas
mod Placing
mod ReadingLemmas
mod Searching
mod Splitting
mod WordLemmas
pub mod Exports
