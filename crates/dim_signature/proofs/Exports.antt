-- What the crates above may cite of this crate's proofs. All else is its own.

-- The number of the signature with given stacks.
pub use Rattle.dim_signature.proofs.Numbers.{found, has_stacks-Decides, missing, own}
-- The stacks in order are those of any permutation that is in order.
pub use Rattle.dim_signature.proofs.SortLemmas.{length-sorted, only_sorted}
