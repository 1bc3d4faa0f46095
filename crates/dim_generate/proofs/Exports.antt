-- What the crates above may cite of this crate's proofs. All else is its own.

-- The text of a number's program is a program's.
pub use Rattle.dim_generate.proofs.GeneratedLemmas.{assembled_again}
