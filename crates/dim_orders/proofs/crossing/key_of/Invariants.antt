use Rattle.std.proofs.Common.{◌≡◌, ◌∷◌, [], take}
use Rattle.std.specs.List.{flat_map}
use Rattle.dim_orders.proofs.crossing.key_of.Given as goal

abbrev pub invariant-loop-hold : goal.invariant-loop-hold
invariant-loop-hold l =
    l.numbers.items ≡ l.operation.lock ∷ l.operation.stack ∷ flat_map (λ h. h.lock ∷ h.stack ∷ []) (take l.hold-index l.held)
