use Rattle.std.proofs.Common.{◌≡◌, drop}
use Rattle.std.specs.List.{list_all}
use Rattle.dim_orders.specs.Nestings.{are_down, is_down, nestings_from}
use Rattle.dim_orders.proofs.parts.go_down.Given as goal

abbrev pub invariant-loop-operation : goal.invariant-loop-operation
invariant-loop-operation l =
    list_all (is_down l.parts) (nestings_from l.held.items (drop l.operation-index l.operations)) ≡ are_down l.parts l.operations
