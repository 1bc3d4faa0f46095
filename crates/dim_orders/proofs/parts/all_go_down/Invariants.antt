use Rattle.std.proofs.Common.{◌≡◌, drop}
use Rattle.std.specs.List.{list_all}
use Rattle.dim_orders.specs.Nestings.{are_down}
use Rattle.dim_orders.proofs.parts.all_go_down.Given as goal

abbrev pub invariant-loop-operations : goal.invariant-loop-operations
invariant-loop-operations l =
    list_all (λ t. are_down l.parts t.items) (drop l.operations-index l.threads) ≡ list_all (λ t. are_down l.parts t.items) l.threads
