use Rattle.std.proofs.Common.{◌≡◌, ℕ, length}
use Rattle.std.specs.List.{Contains}
use Rattle.dim_orders.specs.Own.{row}
use Rattle.dim_orders.proofs.lines.Lines.take_free.Given as goal

abbrev pub invariant-loop-thread : goal.invariant-loop-thread
invariant-loop-thread l = record {
  lines : l.self.lines ≡ l.fn.self.lines;
  line_of : l.self.line_of ≡ l.fn.self.line_of;
  len : length l.self.free.items ≡ length l.fn.self.free.items;
  fewer : (x a : ℕ) → Contains (row l.self.free.items x) a → Contains (row l.fn.self.free.items x) a;
}

abbrev pub decreases-loop-thread : goal.decreases-loop-thread
decreases-loop-thread l = length (row l.self.free.items l.by)
