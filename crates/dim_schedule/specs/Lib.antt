pub mod Drawn
pub mod Settings
