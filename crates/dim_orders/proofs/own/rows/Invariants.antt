use Rattle.std.proofs.Common.{◌≡◌, ℕ, [], length}
use Rattle.dim_orders.specs.Own.{row}
use Rattle.dim_orders.proofs.own.rows.Given as goal

abbrev pub invariant-loop : goal.invariant-loop
invariant-loop g l = record {
  len : length l.rows.items ≡ l.counter;
  empty : (t : ℕ) → row l.rows.items t ≡ [];
}
