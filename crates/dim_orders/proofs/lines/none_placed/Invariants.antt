use Rattle.std.proofs.Common.{◌≡◌, ℕ, false, length}
use Rattle.dim_orders.specs.Placing.{is_placed}
use Rattle.dim_orders.proofs.lines.none_placed.Given as goal

abbrev pub invariant-loop : goal.invariant-loop
invariant-loop l = record {
  len : length l.list.items ≡ l.counter;
  none : (t : ℕ) → is_placed l.list.items t ≡ false;
}
