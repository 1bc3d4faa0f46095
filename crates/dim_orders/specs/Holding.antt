-- What a thread holds, by its own operations.
use Rattle.std.specs.Prelude.{ℕ, ◌==◌, Bool, if◌then◌else◌, List, [], ◌∷◌, ◌++◌}
use Rattle.std.specs.List.{list_any}
use Rattle.dim_orders.specs.declared.hold.Hold.{Hold}
use Rattle.dim_orders.specs.declared.kept.Deed.{Deed}
use Rattle.dim_orders.specs.declared.kept.Deed.TheVariants as deed
use Rattle.dim_orders.specs.declared.kept.Operation.{Operation}

-- whether one of some holds is of a lock
abbrev pub holds : List Hold → ℕ → Bool
holds held lock = list_any (λ h. h.lock == lock) held

-- some holds, oldest first, without the newest of a lock
abbrev pub let_go : ℕ → List Hold → List Hold
let_go lock [] = []
let_go lock (h ∷ hs) =
    if holds hs lock then h ∷ let_go lock hs else (if h.lock == lock then hs else h ∷ hs)

-- what is held after a deed
abbrev pub held_by : Deed → ℕ → ℕ → List Hold → List Hold
held_by deed.Lock lock stack held = held ++ record { lock = lock; stack = stack } ∷ []
held_by deed.Try lock stack held = held ++ record { lock = lock; stack = stack } ∷ []
held_by deed.Unlock lock stack held = let_go lock held

-- what is held after an operation, where this was held before. An unlock of what is not held
-- changes nothing
abbrev pub held_after : List Hold → Operation → List Hold
held_after held o = held_by o.deed o.lock o.stack held

-- what is held after operations, where this was held before them
abbrev pub held_from : List Hold → List Operation → List Hold
held_from held [] = held
held_from held (o ∷ os) = held_from (held_after held o) os
