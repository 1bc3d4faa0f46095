-- What the crates above may cite of this crate's proofs. All else is its own.

-- One move keeps that a thread's own entries lead to it.
pub use Rattle.dim_vm.proofs.Leads.{fits_entry, fits_more, fits_plain, moved_fuel, moved_thread}
-- What is known of the next thing, by the table.
pub use Rattle.dim_vm.proofs.Known.{next_held}
-- How a thread stands to which its own entries lead.
pub use Rattle.dim_vm.proofs.Stands.{IsAsking, asking, held_own, state_is, state_led}
-- What a thread's own entries say of its mode in a history that fits.
pub use Rattle.dim_vm.proofs.OwnModes.{own_mode}
-- A history that fits is a walk exactly where each thread's own entries are.
pub use Rattle.dim_vm.proofs.OwnWalks.{own_walks}
-- What a thread's own entries say of its holds and of its wish.
pub use Rattle.dim_vm.proofs.OwnHolds.{own_holds}
-- A Yield, and what it says of a list of own entries that ends with it.
pub use Rattle.dim_vm.proofs.Words.{yield_yields, yields_last}
-- Where the plain instructions that come next are made, none comes next.
pub use Rattle.dim_vm.proofs.Courses.{rested_again}
