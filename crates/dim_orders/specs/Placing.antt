-- Threads that are put into lines, event by event.
use Rattle.std.specs.Prelude.{◌≡◌, ◌≢◌, ℕ, ◌-◌, ◌<◌, Bool, true, if◌then◌else◌, List, [], Option, Some, None, All, Contains, length, slice_get, slice_index, slice_index_or}
use Rattle.std.specs.Option.{is_some}
use Rattle.dim_log.specs.declared.log.Event.{Event}
use Rattle.dim_log.specs.declared.log.Event.TheVariants.{Join}
use Rattle.dim_orders.specs.Own.{doer}
use Rattle.dim_orders.specs.Lines.{IsLine, times}

-- whether a thread is in a line
abbrev pub is_placed : List (Option ℕ) → ℕ → Bool
is_placed line_of t = is_some (slice_index_or line_of t None)

-- a thread joined another, within the first n events, and that does nothing later
pub record IsFree (events : List Event) (n by a : ℕ) : Type 0 where
  pub join : ℕ
  pub before : join < n
  pub joined : slice_get events join ≡ Some (Join by a)
  pub over : (k : ℕ) (e : Event) → join < k → slice_get events k ≡ Some e → doer e ≢ a

-- the lines, the line of each thread, and whom each joined, after the first n events
pub record ArePlaced (events : List Event) (n : ℕ) (lines : List (List ℕ))
    (line_of : List (Option ℕ)) (free : List (List ℕ)) : Type 0 where
  pub once : (t : ℕ) → times t lines ≡ (if is_placed line_of t then 1 else 0)
  pub done : (k : ℕ) (e : Event) → k < n → slice_get events k ≡ Some e
      → is_placed line_of (doer e) ≡ true
  pub freed : (by a : ℕ) → Contains (slice_index_or free by []) a → IsFree events n by a
  pub joined : All (IsLine events) lines

-- each event of a thread is before this place
abbrev pub AreLasts : List Event → ℕ → List ℕ → Type 0
AreLasts events n lasts = (k : ℕ) (e : Event) → k < n → slice_get events k ≡ Some e
    → k < slice_index lasts (doer e)

-- a line ends with a thread
abbrev pub EndsWith : List (List ℕ) → ℕ → ℕ → Type 0
EndsWith lines line a = (line < length lines)
    × (slice_get (slice_index_or lines line [])
    (length (slice_index_or lines line []) - 1) ≡ Some a)
