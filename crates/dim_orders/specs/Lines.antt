-- Threads of which each was started after the one before it was joined.
use Rattle.std.specs.Prelude.{◌≡◌, ◌≢◌, ℕ, ◌==◌, ◌+◌, ◌<◌, ◌≤◌, List, Some, length, count_by, slice_get, slice_index}
use Rattle.std.specs.List.{flat_map}
use Rattle.dim_log.specs.declared.log.Event.{Event}
use Rattle.dim_log.specs.declared.log.Event.TheVariants.{Start, Join}
use Rattle.dim_orders.specs.Own.{doer}

-- a thread starts b after it joined a, a does nothing after that join, and b nothing before that
-- start
pub record Follows (events : List Event) (a b : ℕ) : Type 0 where
  pub by : ℕ
  pub join : ℕ
  pub start : ℕ
  pub later : join < start
  pub joined : slice_get events join ≡ Some (Join by a)
  pub started : slice_get events start ≡ Some (Start by b)
  pub over : (k : ℕ) (e : Event) → join < k → slice_get events k ≡ Some e → doer e ≢ a
  pub fresh : (k : ℕ) (e : Event) → k < start → slice_get events k ≡ Some e → doer e ≢ b

-- each thread but the first follows the one before it
abbrev pub IsLine : List Event → List ℕ → Type 0
IsLine events ts =
    (i : ℕ) → i + 1 < length ts → Follows events (slice_index ts i) (slice_index ts (i + 1))

-- how often a number is in some lists
abbrev pub times : ℕ → List (List ℕ) → ℕ
times t lines = count_by (λ u. u == t) (flat_map (λ line. line) lines)

-- no thread is in two lines or twice in one, and each that does something is in one
pub record AreOnce (events : List Event) (lines : List (List ℕ)) : Type 0 where
  pub most : (t : ℕ) → times t lines ≤ 1
  pub each : (k : ℕ) (e : Event) → slice_get events k ≡ Some e → times (doer e) lines ≡ 1
