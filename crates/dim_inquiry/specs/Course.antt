-- What a command does where no call fails: its file calls in order, and how it ends.
use Rattle.std.specs.Prelude.{◌≡◌, ◌≤◌, ℕ, List, [], ◌∷◌, ◌++◌, length, Option, Some, None, Result, Ok, Err, nat_lt, if◌then◌else◌}
use Rattle.dim_base.specs.Files.{Named, with_file}
use Rattle.dim_base.specs.Causes.{Rose}
use Rattle.dim_base.specs.declared.files.Fetch.{Fetch}
use Rattle.dim_base.specs.declared.files.Fetch.TheVariants as fetch
use Rattle.dim_base.specs.declared.files.Store.{Store}
use Rattle.dim_base.specs.declared.files.Store.TheVariants as store
use Rattle.dim_inquiry.specs.declared.stop.Place.{Place}
use Rattle.dim_inquiry.specs.declared.stop.Refusal.{Refusal}
use Rattle.dim_inquiry.specs.declared.stop.Refusal.TheVariants as refusals
use Rattle.dim_inquiry.specs.declared.stop.Stop.{Stop}
use Rattle.dim_inquiry.specs.declared.stop.Stop.TheVariants as stops

-- a file call: a store of these bytes, or, with none, a fetch
pub record Call : Type 0 where
  pub place : Place
  pub name : List ℕ
  pub stored : Option (List ℕ)

-- file calls, and then a value or a refusal
pub record Course (A : Type 0) : Type 0 where
  pub calls : List Call
  pub ending : Result A Refusal

-- one course after another
abbrev pub then_calls : {B : Type 0} → List Call → Course B → Course B
then_calls calls c = record { calls = calls ++ c.calls; ending = c.ending }

abbrev pub go_on : {A B : Type 0} → List Call → Result A Refusal → (A → Course B) → Course B
go_on calls (Ok x) f = then_calls calls (f x)
go_on calls (Err r) f = record { calls = calls; ending = Err r }

infixl 10 ◌>>=◌
abbrev pub ◌>>=◌ : {A B : Type 0} → Course A → (A → Course B) → Course B
c >>= f = go_on c.calls c.ending f

-- no call, and then this
abbrev pub ends : {A : Type 0} → Result A Refusal → Course A
ends r = record { calls = []; ending = r }

abbrev pub gives : {A : Type 0} → A → Course A
gives x = ends (Ok x)

abbrev pub wants : {A : Type 0} → Option A → Refusal → Course A
wants (Some x) r = gives x
wants None r = ends (Err r)

abbrev pub file_at : Option (List ℕ) → Place → ℕ → Result (List ℕ) Refusal
file_at None place limit = Err (refusals.Absent place)
file_at (Some bytes) place limit = if nat_lt limit (length bytes) then Err (refusals.Long place) else Ok bytes

abbrev pub fetches : Named → Place → List ℕ → ℕ → Course (List ℕ)
fetches files place name limit = record { calls = record { place = place; name = name; stored = None } ∷ []; ending = file_at (files name) place limit }

abbrev pub stores : Place → List ℕ → List ℕ → Course (Unit {0})
stores place name bytes = record { calls = record { place = place; name = name; stored = Some bytes } ∷ []; ending = Ok tt }

-- a text is read, or its first fault is refused
abbrev pub refusing : {A F : Type 0} → (F → Refusal) → Result A F → Result A Refusal
refusing refusal (Ok x) = Ok x
refusing refusal (Err fault) = Err (refusal fault)

-- the files after a call, and after calls in order
abbrev pub after_call : Option (List ℕ) → List ℕ → Named → Named
after_call None name files = files
after_call (Some bytes) name files = with_file files name (Some bytes)

abbrev pub after_calls : List Call → Named → Named
after_calls [] files = files
after_calls (call ∷ calls) files = after_calls calls (after_call call.stored call.name files)

-- a fetch that failed left the files as they were, a store anything or nothing under its name
abbrev pub FailedCall : Option (List ℕ) → List ℕ → Named → Option Named → Type 0
FailedCall None name files after = after ≡ Some files
FailedCall (Some bytes) name files after = (left : Option (List ℕ))
    × (after ≡ Some (with_file files name left))

-- the calls before one at this place were made, and that one failed
pub record IsCut (calls : List Call) (place : Place) (before : Named) (after : Option Named) : Type 0 where
  pub made : List Call
  pub failed : Call
  pub left : List Call
  pub order : calls ≡ made ++ failed ∷ left
  pub here : failed.place ≡ place
  pub files : FailedCall failed.stored failed.name (after_calls made before) after

-- the first so many calls were made
pub record IsFront (calls : List Call) (before : Named) (after : Option Named) : Type 0 where
  pub made : List Call
  pub left : List Call
  pub order : calls ≡ made ++ left
  pub files : after ≡ Some (after_calls made before)

-- a part of the command gave this, and left these files
abbrev pub Stops : {A : Type 0} → Course A → Named → Stop → Option Named → Type 0
Stops c before (stops.Refused r) after = (c.ending ≡ Err r)
    × (after ≡ Some (after_calls c.calls before))
Stops c before (stops.Fault place) after = IsCut c.calls place before after
Stops c before stops.OutOfMemory after = IsFront c.calls before after

abbrev pub Runs : {A X : Type 0} → (X → A) → Course A → Named → Result X Stop → Option Named
    → Type 0
Runs view c before (Ok x) after = (c.ending ≡ Ok (view x))
    × (after ≡ Some (after_calls c.calls before))
Runs view c before (Err stop) after = Stops c before stop after

-- where the files tell what they hold
abbrev pub WhereTold : Option Named → (Named → Type 0) → Type 0
WhereTold told P = (files : Named) → told ≡ Some files → P files

-- a fault is told only where the count rose
abbrev pub StopCause : {X : Type 0} → ℕ → ℕ → Result X Stop → Type 0
StopCause before now (Err (stops.Fault place)) = Rose before now
StopCause before now r = before ≤ now

-- a part that makes no call tells of no fault
abbrev pub IsFaultless : {X : Type 0} → Result X Stop → Type 0
IsFaultless (Err (stops.Fault place)) = ⊥
IsFaultless r = Unit {0}

-- words are judged before all else
abbrev pub HasWords : {X : Type 0} → Result X Stop → Type 0
HasWords (Err (stops.Refused refusals.Words)) = ⊥
HasWords r = Unit {0}

-- why a fetch at a place gave no bytes, and a store did not do it
abbrev pub fetch_stop : Place → Fetch → Stop
fetch_stop place fetch.Failed = stops.Fault place
fetch_stop place (fetch.Long limit) = stops.Refused (refusals.Long place)
fetch_stop place fetch.Absent = stops.Refused (refusals.Absent place)
fetch_stop place fetch.OutOfMemory = stops.OutOfMemory

abbrev pub store_stop : Place → Store → Stop
store_stop place store.Failed = stops.Fault place
store_stop place store.OutOfMemory = stops.OutOfMemory
