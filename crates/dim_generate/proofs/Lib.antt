pub mod Drawing
pub mod Exports
pub mod GeneratedLemmas
