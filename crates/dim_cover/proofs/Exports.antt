-- What the crates above may cite of this crate's proofs. All else is its own.

-- A new edge stands behind the others.
pub use Rattle.dim_cover.proofs.Newest.{new_by_birth}
-- The first cover in the list is the named one.
pub use Rattle.dim_cover.proofs.Named.{law as named_law}
-- Lists that grow at their end, and lists of marks.
pub use Rattle.dim_cover.proofs.Lists.{map_more}
