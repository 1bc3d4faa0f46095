use Rattle.std.proofs.Common.{◌≡◌, [], map, take}
use Rattle.dim_orders.specs.Crossing.{kept_from}
use Rattle.dim_orders.specs.Sections.{sections}
use Rattle.dim_orders.proofs.keeping.kept_threads.Given as goal

abbrev pub invariant-loop-operations : goal.invariant-loop-operations
invariant-loop-operations l =
    map (λ v. v.items) l.kept.items ≡ map (λ v. kept_from l.parts [] (sections v.items)) (take l.operations-index l.threads)
