-- What the crates above may cite of this crate's proofs. All else is its own.

-- How long the texts of histories are.
pub use Rattle.dim_history_file.proofs.Lengths.{length_law}
-- A text that is read is one of a history.
pub use Rattle.dim_history_file.proofs.Moving.{spelled_back}
