use Rattle.std.proofs.Common.{◌<◌, ◌≤◌, ℕ}
use Rattle.dim_cover.specs.Shelf.{IsVacant}
use Rattle.dim_cover.proofs.shelf.is_vacant.Given as goal

-- the depths so far
abbrev pub invariant-loop-depth : goal.invariant-loop-depth
invariant-loop-depth l = (d : ℕ) → 1 ≤ d → d < l.depth → IsVacant l.shelf l.stack d
