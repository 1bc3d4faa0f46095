-- What the crates above may cite of this crate's proofs. All else is its own.

-- A list of two, once both are popped.
pub use Rattle.dim_turn.proofs.Pairs.{two_popped}
