mod Starts
pub mod Exports
