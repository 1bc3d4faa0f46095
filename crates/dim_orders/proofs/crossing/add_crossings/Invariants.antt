use Rattle.std.proofs.Common.{◌≡◌, ◌++◌, List, drop}
use Rattle.std.specs.List.{filter}
use Rattle.dim_orders.specs.Nestings.{Nesting, crosses, nestings_from}
use Rattle.dim_orders.specs.Crossing.{Adds, crossings}
use Rattle.dim_orders.proofs.crossing.add_crossings.Given as goal

abbrev pub invariant-loop-operation : goal.invariant-loop-operation
invariant-loop-operation l = (done : List Nesting) × Adds l.fn.had.keys l.had.keys done l.new
    × (done ++ filter (crosses l.parts) (nestings_from l.held.items (drop l.operation-index l.section)) ≡ crossings l.parts l.section)
