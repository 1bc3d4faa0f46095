use Rattle.std.proofs.Common.{◌≡◌, ◌≤◌, ◌^◌, drop}
use Rattle.dim_picture.specs.Frames.{rows_from}
use Rattle.dim_picture.proofs.lanes.rows_of.Given as goal

abbrev pub invariant-loop-place : goal.invariant-loop-place
invariant-loop-place l = record {
  rest : rows_from l.from l.to l.t l.most l.place (drop l.place l.shapes) ≡ rows_from l.from l.to l.t 1 0 l.shapes;
  few : l.most ≤ 2 ^ 32;
}
