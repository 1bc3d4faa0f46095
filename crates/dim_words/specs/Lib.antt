pub mod Commands
pub mod Found
pub mod Grammar
pub mod Kept
pub mod Places
pub mod Ranges
pub mod Words
