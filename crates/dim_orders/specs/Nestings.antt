-- Where a thread takes a lock while it holds others.
use Rattle.std.specs.Prelude.{ℕ, ◌==◌, nat_le, Bool, true, false, ◌&&◌, not, if◌then◌else◌, List, [], ◌∷◌, ◌++◌, slice_index}
use Rattle.std.specs.List.{list_any, list_all}
use Rattle.dim_orders.specs.declared.hold.Hold.{Hold}
use Rattle.dim_orders.specs.declared.kept.Deed.{Deed}
use Rattle.dim_orders.specs.declared.kept.Deed.TheVariants as deed
use Rattle.dim_orders.specs.declared.kept.Operation.{Operation}
use Rattle.dim_orders.specs.Holding.{holds, held_after}

-- a lock that is taken, where, and what its thread holds then, oldest first
pub record Nesting : Type 0 where
  pub held : List Hold
  pub lock : ℕ
  pub stack : ℕ

abbrev pub is_lock : Deed → Bool
is_lock deed.Lock = true
is_lock deed.Try = false
is_lock deed.Unlock = false

-- whether an operation takes a lock that its thread does not hold, and waits for it. (A try does
-- not wait.)
abbrev pub waits : List Hold → Operation → Bool
waits held o = is_lock o.deed && not (holds held o.lock)

abbrev pub nesting : List Hold → Operation → Nesting
nesting held o = record { held = held; lock = o.lock; stack = o.stack }

-- the nesting that an operation is, if it is one. (Where nothing is held, it has no orders.)
abbrev pub asked : List Hold → Operation → List Nesting
asked held o = if waits held o then nesting held o ∷ [] else []

-- the nestings of operations, where this is held before them
abbrev pub nestings_from : List Hold → List Operation → List Nesting
nestings_from held [] = []
nestings_from held (o ∷ os) = asked held o ++ nestings_from (held_after held o) os

-- the nestings of a thread that begins with nothing
abbrev pub nestings : List Operation → List Nesting
nestings os = nestings_from [] os

-- the part of a lock
abbrev pub part : List ℕ → ℕ → ℕ
part parts lock = slice_index parts lock

-- whether no order of a nesting goes up: from a held lock to the one that is taken
abbrev pub is_down : List ℕ → Nesting → Bool
is_down parts n = list_all (λ h. nat_le (part parts n.lock) (part parts h.lock)) n.held

-- whether no order of some operations goes up
abbrev pub are_down : List ℕ → List Operation → Bool
are_down parts os = list_all (is_down parts) (nestings os)

-- whether a nesting crosses: it stays in the part of a held lock
abbrev pub crosses : List ℕ → Nesting → Bool
crosses parts n = list_any (λ h. part parts h.lock == part parts n.lock) n.held
