pub mod Drafted
pub mod Generated
