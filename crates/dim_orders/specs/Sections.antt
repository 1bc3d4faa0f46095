-- The sections of a thread: from where it holds nothing to where it holds nothing again.
use Rattle.std.specs.Prelude.{◌≡◌, ℕ, All, ◌==◌, ◌-◌, Bool, true, if◌then◌else◌, List, [], ◌∷◌, ◌++◌, Option, Some, None, map, reverse, length, slice_get}
use Rattle.std.specs.List.{flat_map}
use Rattle.dim_orders.specs.declared.hold.Hold.{Hold}
use Rattle.dim_orders.specs.declared.kept.Deed.{Deed}
use Rattle.dim_orders.specs.declared.kept.Deed.TheVariants as deed
use Rattle.dim_orders.specs.declared.kept.Operation.{Operation}
use Rattle.dim_orders.specs.Holding.{holds, held_after, held_from}

abbrev pub found_by : Deed → ℕ → List Hold → Bool
found_by deed.Lock lock held = true
found_by deed.Try lock held = true
found_by deed.Unlock lock held = holds held lock

-- whether an operation isn't an unlock of what is not held
abbrev pub is_found : List Hold → Operation → Bool
is_found held o = found_by o.deed o.lock held

-- the unlocks of some holds, newest first
abbrev pub closing : ℕ → List Hold → List Operation
closing stack held =
    map (λ h. record { deed = deed.Unlock; lock = h.lock; stack = stack }) (reverse held)

abbrev pub stack_of : Option Operation → ℕ
stack_of None = 0
stack_of (Some o) = o.stack

-- the stack of the last operation
abbrev pub last_stack : List Operation → ℕ
last_stack os = stack_of (slice_get os (length os - 1))

-- a section that the end of the log cuts, with the missing unlocks
abbrev pub ended : List Hold → List Operation → List (List Operation)
ended held begun =
    if length held == 0 then [] else (begun ++ closing (last_stack begun) held) ∷ []

-- the sections of operations behind those of a section that is begun, where this is held. Unlocks
-- of what is not held are left out
abbrev pub sections_from : List Hold → List Operation → List Operation → List (List Operation)
sections_from held begun [] = ended held begun
sections_from held begun (o ∷ os) =
    if is_found held o
    then (if length (held_after held o) == 0
    then (begun ++ o ∷ []) ∷ sections_from [] [] os
    else sections_from (held_after held o) (begun ++ o ∷ []) os)
    else sections_from held begun os

-- the sections of a thread
abbrev pub sections : List Operation → List (List Operation)
sections os = sections_from [] [] os

-- operations without the unlocks of what is not held, where this is held before them
abbrev pub found_from : List Hold → List Operation → List Operation
found_from held [] = []
found_from held (o ∷ os) =
    (if is_found held o then o ∷ [] else []) ++ found_from (held_after held o) os

-- joined, the sections of a thread are its operations without the unlocks of what it does not hold,
-- and then the unlocks that are missing, newest hold first; and each ends with nothing held
abbrev pub SectionsLaw : Type 0
SectionsLaw = (os : List Operation)
    → ((stack : ℕ) × (flat_map (λ s. s) (sections os)
    ≡ found_from [] os ++ closing stack (held_from [] os)))
    × All (λ s. held_from [] s ≡ []) (sections os)
