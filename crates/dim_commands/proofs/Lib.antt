pub mod AttemptLemmas
pub mod BuildLemmas
pub mod GenerateLemmas
pub mod GrownLemmas
pub mod ImmunizeLemmas
pub mod LastLemmas
pub mod LiveLemmas
pub mod RunLemmas
pub mod SpelledLemmas
pub mod StoreLemmas
pub mod WholeLemmas
mod TellingLemmas
