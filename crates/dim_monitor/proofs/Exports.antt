-- What the crates above may cite of this crate's proofs. All else is its own.

-- The births of the cycles: each passes as a certificate, and tells its cycle.
pub use Rattle.dim_monitor.proofs.Told.{certified, each}
-- Where no thread waits for one that waits, there is no cycle.
pub use Rattle.dim_monitor.proofs.Waiting.{no_cycles}
