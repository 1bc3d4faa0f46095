use Rattle.std.proofs.Common.{◌≡◌, length}
use Rattle.dim_orders.specs.Placing.{AreLasts}
use Rattle.dim_orders.proofs.lines.lasts_of.Given as goal

abbrev pub invariant-loop-i : goal.invariant-loop-i
invariant-loop-i l = record {
  len : length l.lasts.items ≡ l.threads;
  lasts : AreLasts l.events l.i l.lasts.items;
}
