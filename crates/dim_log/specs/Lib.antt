pub mod Value
pub mod Faults
pub mod Tables
pub mod Saying
pub mod Seen
pub mod Line
pub mod Reader
pub mod Places
