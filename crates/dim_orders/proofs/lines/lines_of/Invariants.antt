use Rattle.std.proofs.Common.{◌≡◌, length, map}
use Rattle.dim_orders.specs.Placing.{ArePlaced}
use Rattle.dim_orders.proofs.lines.lines_of.Given as goal

abbrev pub invariant-loop-i : goal.invariant-loop-i
invariant-loop-i l = record {
  len : length l.lines.line_of.items ≡ l.threads;
  free : length l.lines.free.items ≡ l.threads;
  placed : ArePlaced l.events l.i (map (λ v. v.items) l.lines.lines.items) l.lines.line_of.items (map (λ v. v.items) l.lines.free.items);
}
