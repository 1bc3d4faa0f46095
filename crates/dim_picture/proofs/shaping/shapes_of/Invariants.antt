use Rattle.std.proofs.Common.{◌≡◌, ◌≤◌, [], length, drop}
use Rattle.dim_picture.specs.Shapes.{shapes_from}
use Rattle.dim_picture.proofs.shaping.shapes_of.Given as goal

abbrev pub invariant-loop-place : goal.invariant-loop-place
invariant-loop-place l = record {
  rest : shapes_from l.slots.items l.shapes.items (drop l.place l.marks) ≡ shapes_from [] [] l.marks;
  count : length l.shapes.items ≡ l.place;
  few : length l.slots.items ≤ l.place;
}
