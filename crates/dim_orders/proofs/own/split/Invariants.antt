use Rattle.std.proofs.Common.{◌≡◌, ℕ, take, length}
use Rattle.dim_orders.specs.Own.{own, row}
use Rattle.dim_orders.proofs.own.split.Given as goal

abbrev pub invariant-loop-event : goal.invariant-loop-event
invariant-loop-event l = record {
  len : length l.own.items ≡ l.threads;
  own : (t : ℕ) → row l.own.items t ≡ own t (take l.event-index l.events);
}
