pub mod Catalogue
pub mod Order
pub mod Refusal
pub mod Sig
pub mod Sorted
