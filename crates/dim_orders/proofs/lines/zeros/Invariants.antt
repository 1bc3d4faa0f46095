use Rattle.std.proofs.Common.{◌≡◌, length}
use Rattle.dim_orders.proofs.lines.zeros.Given as goal

abbrev pub invariant-loop : goal.invariant-loop
invariant-loop l = length l.list.items ≡ l.counter
