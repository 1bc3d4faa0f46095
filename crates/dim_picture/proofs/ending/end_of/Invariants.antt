use Rattle.std.proofs.Common.{◌≡◌, drop}
use Rattle.dim_picture.specs.Shapes.{end_from}
use Rattle.dim_picture.proofs.ending.end_of.Given as goal

abbrev pub invariant-loop-place : goal.invariant-loop-place
invariant-loop-place l = end_from l.mark l.place (drop l.place l.marks) ≡ end_from l.mark l.from (drop l.from l.marks)
