pub mod Cuts
pub mod Numerals
pub mod Naming
pub mod Reading
pub mod Places
pub mod States
pub mod Stops
pub mod Words
