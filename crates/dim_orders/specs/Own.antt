-- The operations of one thread of a log.
use Rattle.std.specs.Prelude.{ℕ, ◌==◌, ◌<◌, if◌then◌else◌, List, [], ◌∷◌, Option, Some, None, map, slice_index_or, Vec}
use Rattle.std.specs.List.{flat_map}
use Rattle.std.specs.declared.alloc.Global.{Global}
use Rattle.dim_log.specs.declared.log.Event.{Event}
use Rattle.dim_log.specs.declared.log.Event.TheVariants.{Lock, Try, Unlock, Start, Join}
use Rattle.dim_orders.specs.declared.kept.Deed.TheVariants as deed
use Rattle.dim_orders.specs.declared.kept.Operation.{Operation}

-- whose event it is
abbrev pub doer : Event → ℕ
doer (Lock thread lock stack) = thread
doer (Try thread lock stack took) = thread
doer (Unlock thread lock stack) = thread
doer (Start thread other) = thread
doer (Join thread other) = thread

-- the other thread of a start or join, and else the thread itself
abbrev pub other_of : Event → ℕ
other_of (Lock thread lock stack) = thread
other_of (Try thread lock stack took) = thread
other_of (Unlock thread lock stack) = thread
other_of (Start thread other) = other
other_of (Join thread other) = other

-- what an event does to a lock. A try that did not take does nothing
abbrev pub deed_of : Event → Option Operation
deed_of (Lock thread lock stack) = Some (record { deed = deed.Lock; lock = lock; stack = stack })
deed_of (Try thread lock stack took) =
    if took then Some (record { deed = deed.Try; lock = lock; stack = stack }) else None
deed_of (Unlock thread lock stack) =
    Some (record { deed = deed.Unlock; lock = lock; stack = stack })
deed_of (Start thread other) = None
deed_of (Join thread other) = None

abbrev pub as_list : Option Operation → List Operation
as_list None = []
as_list (Some o) = o ∷ []

-- what an event is to a thread
abbrev pub own_of : ℕ → Event → List Operation
own_of t e = if doer e == t then as_list (deed_of e) else []

-- the operations of a thread, in the order of the log
abbrev pub own : ℕ → List Event → List Operation
own t events = flat_map (own_of t) events

-- the threads of an event are among so many
pub record IsWithin (threads : ℕ) (e : Event) : Type 0 where
  pub doer : doer e < threads
  pub other : other_of e < threads

-- the list of this number
abbrev pub row : {X : Type 0} → List (Vec X Global) → ℕ → List X
row vs t = slice_index_or (map (λ v. v.items) vs) t []
