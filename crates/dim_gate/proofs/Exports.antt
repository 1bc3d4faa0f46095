-- What the crates above may cite of this crate's proofs. All else is its own.

-- When the gate makes an entry, and which.
pub use Rattle.dim_gate.proofs.Made.{IsMade, made as made_so}
-- What the gate makes is legal.
pub use Rattle.dim_gate.proofs.Legal.{made_legal}
-- The entries of a legal history were vetted, so it is immune.
pub use Rattle.dim_gate.proofs.Vetted.{legal_made, legal_yield}
-- The stacks of what is learnt.
pub use Rattle.dim_gate.proofs.HeldStacks.{cycle_learns, each_born, learn_two, starved_learns}
-- A legal list fits, and its entries are in range.
pub use Rattle.dim_gate.proofs.Fitting.{earlier, fits, in_range}
-- Edges and cycles in a legal history that grows.
pub use Rattle.dim_gate.proofs.Lasting.{cycle_law}
-- A stuck set in a legal history that grows.
pub use Rattle.dim_gate.proofs.StuckSteps.{stuck_law}
-- The cycles and the starvations that a legal history learns.
pub use Rattle.dim_gate.proofs.Learns.{kept_few, learn_law}
pub use Rattle.dim_gate.proofs.LearntEdges.{learnt_edges_law}
-- The known signatures, by their numbers, and the stacks of those of cycles and of starvations.
pub use Rattle.dim_gate.proofs.ByPlace.{known_law}
pub use Rattle.dim_gate.proofs.CycleStacks.{signature_law}
-- What is still to be learnt after a Learn.
pub use Rattle.dim_gate.proofs.Unlearnt.{is_new, learnt_done, missing_before, none_chosen, none_stays}
-- When each starvation that is learnt is broken out of at once.
pub use Rattle.dim_gate.proofs.Followed.{followed_law, given_self}
