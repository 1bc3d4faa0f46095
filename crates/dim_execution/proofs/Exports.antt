-- What the crates above may cite of this crate's proofs. All else is its own.

-- The machines at the start, one by one.
pub use Rattle.dim_execution.proofs.Starts.{starts_count, starts_each}
