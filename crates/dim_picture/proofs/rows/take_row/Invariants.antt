use Rattle.std.proofs.Common.{◌≡◌, ◌≤◌, ◌+◌, ◌++◌, take, drop}
use Rattle.dim_picture.specs.Shapes.{first_free, with_taken}
use Rattle.dim_picture.proofs.rows.take_row.Given as goal

abbrev pub invariant-loop-i : goal.invariant-loop-i
invariant-loop-i l = record {
  same : l.slots.items ≡ l.fn.slots.items;
  free : l.row + first_free l.t.0 l.place (drop l.i l.fn.slots.items) ≡ first_free l.t.0 l.place l.fn.slots.items;
  taken : take l.i l.fn.slots.items ++ with_taken l.t l.place l.until (drop l.i l.fn.slots.items) ≡ with_taken l.t l.place l.until l.fn.slots.items;
  low : l.row ≤ l.i;
}
