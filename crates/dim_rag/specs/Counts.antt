-- How often a lock is held.
use Rattle.std.specs.Prelude.{◌≡◌, ℕ, ◌+◌, ◌==◌, ◌≤◌, ◌↔◌, Bool, true, false, if◌then◌else◌, List, ◌∷◌, length, filter, Option, Some, None, IsSome}
use Rattle.dim_rag.specs.declared.entry.Edge.{Edge}
use Rattle.dim_rag.specs.declared.entry.Entry.{Entry}
use Rattle.dim_rag.specs.declared.entry.Entry.TheVariants.{Got, Free, Took}
use Rattle.dim_rag.specs.History.{are, count, hold, allow, mode, is_deeper, is_inner}
use Rattle.dim_rag.specs.Holder.{holder}
use Rattle.dim_rag.specs.Fits.{Fits, AreInRange}

-- how often the owner of a hold edge on l holds it, 0 where there is none
abbrev pub count_of : ℕ → List Entry → Option Edge → ℕ
count_of l h None = 0
count_of l h (Some e) = count e.t.0 l h

-- how often l is held by its holder, of n threads, 0 where it is free
abbrev pub times_held : ℕ → ℕ → List Entry → ℕ
times_held n l h = count_of l h (holder n l h)

-- how often t holds a lock, where this is the hold edge on it and how often it is held
abbrev pub count_by : ℕ → Option Edge → ℕ → ℕ
count_by t None n = 0
count_by t (Some e) n = if e.t.0 == t then n else 0

-- whether t takes l by an entry, once more or for the first time; whether it gives one hold back
abbrev pub is_take : ℕ → ℕ → Entry → Bool
is_take t l (Got u m) = are t l u m
is_take t l (Took u m s) = are t l u m
is_take t l _ = false

abbrev pub is_return : ℕ → ℕ → Entry → Bool
is_return t l (Free u m) = are t l u m
is_return t l _ = false

-- in a list that fits, t has a hold edge on a lock exactly where it holds it once or more; nobody
-- holds a lock more than 255 times; and t has taken it as often as it has given it back and holds it
pub record CountLaw : Type 0 where
  pub held : (n m t l : ℕ) (h : List Entry) → Fits h → AreInRange n m h
      → IsSome (hold t l h) ↔ (1 ≤ count t l h)
  pub most : (n m t l : ℕ) (h : List Entry) → Fits h → AreInRange n m h → count t l h ≤ 255
  pub balance : (n m t l : ℕ) (h : List Entry) → Fits h → AreInRange n m h
      → length (filter (is_take t l) h) ≡ length (filter (is_return t l) h) + count t l h

-- an entry that changes but a count: a deeper Took, or an inner Free
abbrev pub IsQuiet : List Entry → Entry → Type 0
IsQuiet h (Took t l s) = is_deeper t.0 l.0 h ≡ true
IsQuiet h (Free t l) = is_inner t.0 l.0 h ≡ true
IsQuiet h _ = ⊥

-- in a list that fits, such an entry changes no edge and no mode
pub record QuietLaw : Type 0 where
  pub allow_is : (e : Entry) (h : List Entry) → IsQuiet h e → (t l : ℕ)
      → allow t l (e ∷ h) ≡ allow t l h
  pub hold_is : (e : Entry) (h : List Entry) → IsQuiet h e → (t l : ℕ)
      → hold t l (e ∷ h) ≡ hold t l h
  pub mode_is : (e : Entry) (h : List Entry) → Fits (e ∷ h) → IsQuiet h e → (t : ℕ)
      → mode t (e ∷ h) ≡ mode t h
