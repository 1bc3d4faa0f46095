-- The test that goes first over the words that begin with a dash.
use Rattle.std.specs.Prelude.{◌≡◌, ℕ, zero, suc, ◌==◌, List, [], ◌∷◌, ◌++◌, Option, Some, None, option_and_then, option_map, Bool, true, false, not, ◌&&◌, ◌||◌, if◌then◌else◌, codes}
use Rattle.dim_words.specs.declared.kind.Kind.{Kind}
use Rattle.dim_words.specs.declared.kind.Setting.{Setting}
use Rattle.dim_words.specs.declared.kind.Setting.TheVariants.{Fuel, Quantum, Depth, Seed, Workers, Attempts}
use Rattle.dim_words.specs.declared.seen.Seen.{Seen}
use Rattle.dim_words.specs.Words.{setting_in, kind_word, history_place, is_dash, by_setting}

abbrev pub unmarked : Seen
unmarked = record { fuel = false; quantum = false; depth = false; seed = false; workers = false; attempts = false }

abbrev pub has_seen : Setting → Seen → Bool
has_seen Fuel s = s.fuel
has_seen Quantum s = s.quantum
has_seen Depth s = s.depth
has_seen Seed s = s.seed
has_seen Workers s = s.workers
has_seen Attempts s = s.attempts

abbrev pub mark : Setting → Seen → Seen
mark Fuel s = record s { fuel = true }
mark Quantum s = record s { quantum = true }
mark Depth s = record s { depth = true }
mark Seed s = record s { seed = true }
mark Workers s = record s { workers = true }
mark Attempts s = record s { attempts = true }

abbrev pub marked : Setting → Seen → Option Seen
marked s seen = if has_seen s seen then None else Some (mark s seen)

abbrev pub is_dashed : List ℕ → Bool
is_dashed [] = false
is_dashed (b ∷ bytes) = b == 45

-- the words for the parser so far, the options met, and how many names come before that of the
-- history
pub record Kept : Type 0 where
  pub words : List (List ℕ)
  pub seen : Seen
  pub until : Option ℕ

abbrev pub begun : Kind → Kept
begun k = record { words = codes "dim" ∷ kind_word k ∷ []; seen = unmarked; until = history_place k }

abbrev pub next_place : Option ℕ → Option ℕ
next_place None = None
next_place (Some zero) = None
next_place (Some (suc n)) = Some n

abbrev pub is_here : Option ℕ → Bool
is_here None = false
is_here (Some n) = n == 0

-- a word that may be a name, where so many come before that of the history:
-- one without a dash, or a lone dash in the place of the history
abbrev pub may_stand : Option ℕ → List ℕ → Bool
may_stand until word = not (is_dashed word) || (is_dash word && is_here until)

abbrev pub with_word : List ℕ → Kept → Kept
with_word word k = record k { words = k.words ++ word ∷ []; until = next_place k.until }

abbrev pub keep_name : List ℕ → Kept → Option Kept
keep_name word k = if may_stand k.until word then Some (with_word word k) else None

abbrev pub with_given : List ℕ → List ℕ → Kept → Seen → Kept
with_given word value k seen = record k { words = (k.words ++ word ∷ []) ++ value ∷ []; seen = seen }

-- an option that wasn't met before, with a value that doesn't begin with a dash
abbrev pub keep_given : Setting → List ℕ → List ℕ → Kept → Option Kept
keep_given s word value k = if is_dashed value then None else option_map (with_given word value k) (marked s k.seen)

-- The words behind a command, kept after k.
unfoldable pub kept_after : Kind → Kept → List (List ℕ) → Option Kept
kept_after kind k [] = Some k
kept_after kind k (word ∷ []) = by_setting (setting_in kind word) (keep_name word k) (λ s. None)
kept_after kind k (word ∷ value ∷ words) =
    by_setting (setting_in kind word)
    (option_and_then (λ q. kept_after kind q (value ∷ words)) (keep_name word k))
    (λ s. option_and_then (λ q. kept_after kind q words) (keep_given s word value k))

abbrev pub kept : Kind → List (List ℕ) → Option Kept
kept kind words = kept_after kind (begun kind) words

-- what was kept, or why nothing was
abbrev pub Keeps : Option (Unit {0}) → Kept → Option Kept → Type 0
Keeps (Some u) new right = right ≡ Some new
Keeps None new right = right ≡ None

-- one step leaves these words, and what is kept behind it is what is kept behind all
abbrev pub Steps : Kind → Option Kept → Kept → Option (List (List ℕ)) → Type 0
Steps kind right new (Some left) = right ≡ kept_after kind new left
Steps kind right new None = right ≡ None
