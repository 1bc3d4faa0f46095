use Rattle.std.proofs.Common.{◌≡◌, ◌++◌, drop, map}
use Rattle.dim_orders.specs.Sections.{sections, sections_from}
use Rattle.dim_orders.proofs.sections.sections_of.Given as goal

abbrev pub invariant-loop-operation : goal.invariant-loop-operation
invariant-loop-operation l =
    map (λ v. v.items) l.walk.list.items ++ sections_from l.walk.held.items l.walk.begun.items (drop l.operation-index l.operations) ≡ sections l.operations
