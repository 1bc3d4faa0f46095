-- Nestings that wait for each other around a cycle.
use Rattle.std.specs.Prelude.{◌≡◌, ℕ, true, false, List, [], ◌∷◌, Some, Contains, slice_get, take}
use Rattle.dim_log.specs.declared.log.Event.{Event}
use Rattle.dim_log.specs.declared.log.Event.TheVariants.{Lock}
use Rattle.dim_orders.specs.Holding.{held_from, holds}
use Rattle.dim_orders.specs.Nestings.{Nesting, nestings}
use Rattle.dim_orders.specs.Own.{own}

-- a nesting, and whose it is
pub record Wait : Type 0 where
  pub thread : ℕ
  pub nesting : Nesting

-- one waits for what another holds
abbrev pub WaitsFor : Wait → Wait → Type 0
WaitsFor a b = holds b.nesting.held a.nesting.lock ≡ true

-- each waits for the one behind it, and the last for this one
abbrev pub Leads : Wait → List Wait → Wait → Type 0
Leads a [] z = WaitsFor a z
Leads a (b ∷ bs) z = WaitsFor a b × Leads b bs z

-- each waits for the next one around
abbrev pub IsCycle : List Wait → Type 0
IsCycle [] = ⊥
IsCycle (w ∷ ws) = Leads w ws w

-- a nesting of a thread of a log
abbrev pub IsOf : List Event → Wait → Type 0
IsOf events w = Contains (nestings (own w.thread events)) w.nesting

-- a nesting by places of the log: an event takes the lock at the stack, its thread holds then what
-- its operations before that event leave, and not this lock
pub record NestsAt (events : List Event) (w : Wait) : Type 0 where
  pub place : ℕ
  pub taken : slice_get events place ≡ Some (Lock w.thread w.nesting.lock w.nesting.stack)
  pub held : held_from [] (own w.thread (take place events)) ≡ w.nesting.held
  pub not_held : holds w.nesting.held w.nesting.lock ≡ false

-- what a log has of nestings is told by places
abbrev pub PlacesLaw : Type 0
PlacesLaw = (events : List Event) (w : Wait)
    → (IsOf events w → NestsAt events w) × (NestsAt events w → IsOf events w)
