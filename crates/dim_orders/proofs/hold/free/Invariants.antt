use Rattle.std.proofs.Common.{◌≡◌, ◌≤◌, false, drop, length}
use Rattle.dim_orders.specs.Holding.{holds}
use Rattle.dim_orders.proofs.hold.free.Given as goal

abbrev pub invariant-loop-i : goal.invariant-loop-i
invariant-loop-i l = record {
  same : l.held ≡ l.fn.held;
  within : l.i ≤ length l.held.items;
  rest : holds (drop l.i l.held.items) l.lock ≡ false;
}

abbrev pub decreases-loop-i : goal.decreases-loop-i
decreases-loop-i l = l.i
