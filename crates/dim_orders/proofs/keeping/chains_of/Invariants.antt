use Rattle.std.proofs.Common.{◌≡◌, map, take}
use Rattle.std.specs.List.{filter}
use Rattle.dim_orders.specs.Kept.{has_any, line_by, shown}
use Rattle.dim_orders.specs.Own.{row}
use Rattle.dim_orders.proofs.keeping.chains_of.Given as goal

abbrev pub invariant-loop-line : goal.invariant-loop-line
invariant-loop-line l =
    map shown l.chains.items ≡ filter has_any (map (λ v. line_by (row l.kept) v.items) (take l.line-index l.lines))
