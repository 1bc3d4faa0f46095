use Rattle.std.proofs.Common.{◌≡◌, ◌++◌, [], List, drop, map}
use Rattle.dim_orders.specs.Nestings.{Nesting}
use Rattle.dim_orders.specs.Crossing.{IsTable, kept_from}
use Rattle.dim_orders.proofs.crossing.kept_sections.Given as goal

abbrev pub invariant-loop-section : goal.invariant-loop-section
invariant-loop-section l = (had : List Nesting) × IsTable had l.had.keys
    × (l.kept.items ++ kept_from l.parts had (map (λ v. v.items) (drop l.section-index l.sections)) ≡ kept_from l.parts [] (map (λ v. v.items) l.sections))
