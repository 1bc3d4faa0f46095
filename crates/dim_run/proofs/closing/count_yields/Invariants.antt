use Rattle.std.proofs.Common.{◌≡◌, take}
use Rattle.dim_run.specs.Grown.{counted_from}
use Rattle.dim_run.proofs.closing.count_yields.Given as goal

-- the entries before this place are counted
abbrev pub invariant-loop-place : goal.invariant-loop-place
invariant-loop-place l = l.catalogue.sigs ≡ counted_from 0 (take l.place l.tables.entries) l.initial.catalogue.sigs
