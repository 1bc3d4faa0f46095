pub mod Start
pub mod Executes
