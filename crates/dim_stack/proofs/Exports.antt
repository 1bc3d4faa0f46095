-- What the crates above may cite of this crate's proofs. All else is its own.

-- Frames are equal where their numbers are.
pub use Rattle.dim_stack.proofs.Frames.{Decides-frame}
-- The number of a name, and the order of stacks by the names of their functions.
pub use Rattle.dim_stack.proofs.NumberLemmas.{found, missing, order, own}
-- The table of names ascends, has the same names, and is the only list that does.
pub use Rattle.dim_stack.proofs.TableLemmas.{contains_has, has-append, has_contains, has_own, has_second, only_table, table-same}
