pub mod Comparing
pub mod Judged
pub mod Moving
pub mod Numbered
pub mod Renewing
pub mod Spelled
pub mod Using
pub mod Sound
pub mod Taking
pub mod Endings
mod Lengths
pub mod Exports
