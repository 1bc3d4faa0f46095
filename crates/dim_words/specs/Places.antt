-- What the words behind a command part into, by their positions.
use Rattle.std.specs.Prelude.{◌≡◌, ℕ, zero, suc, ◌<◌, List, [], ◌∷◌, ◌++◌, length, slice_get, Option, Some, None, option_and_then, is_some, MatchOption, Bool, false, ◌||◌, ◌⊎◌, if◌then◌else◌}
use Rattle.dim_words.specs.declared.kind.Kind.{Kind}
use Rattle.dim_words.specs.declared.kind.Setting.{Setting}
use Rattle.dim_words.specs.declared.kind.Setting.TheVariants.{Fuel, Quantum, Depth, Seed, Workers, Attempts}
use Rattle.dim_words.specs.Words.{Parted, parted, setting_in, value_of}

-- the setting of the option that stands at position i: the word there is an option of the command,
-- and none stands right before it
abbrev pub option_at : Kind → List (List ℕ) → ℕ → Option Setting
option_at k words zero = option_and_then (setting_in k) (slice_get words 0)
option_at k words (suc i) = if is_some (option_at k words i) then None else option_and_then (setting_in k) (slice_get words (suc i))

-- whether position i is right behind an option
abbrev pub is_value : Kind → List (List ℕ) → ℕ → Bool
is_value k words zero = false
is_value k words (suc i) = is_some (option_at k words i)

abbrev pub one : Option (List ℕ) → List (List ℕ)
one None = []
one (Some word) = word ∷ []

-- the word at position i, where it is neither an option nor behind one
abbrev pub name_at : Kind → List (List ℕ) → ℕ → List (List ℕ)
name_at k words i = if is_value k words i || is_some (option_at k words i) then [] else one (slice_get words i)

-- the names among the first n words
abbrev pub names_among : Kind → List (List ℕ) → ℕ → List (List ℕ)
names_among k words zero = []
names_among k words (suc n) = names_among k words n ++ name_at k words n

-- the value that a setting is given
abbrev pub given_in : Setting → Parted → Option ℕ
given_in Fuel p = p.fuel
given_in Quantum p = p.quantum
given_in Depth p = p.depth
given_in Seed p = p.seed
given_in Workers p = p.workers
given_in Attempts p = p.attempts

-- the word behind position i is this value of the setting
pub record IsGiven (words : List (List ℕ)) (s : Setting) (i n : ℕ) : Type 0 where
  pub value : List ℕ
  pub there : slice_get words (suc i) ≡ Some value
  pub spelled : value_of s value ≡ Some n

-- the names are the words that are neither options nor behind one, in order; each option gives its
-- setting the value that is spelled behind it; nothing else gives a value; and no option stands
-- twice
pub record IsParting (k : Kind) (words : List (List ℕ)) (p : Parted) : Type 0 where
  pub names : p.names ≡ names_among k words (length words)
  pub values : (i : ℕ) (s : Setting) → option_at k words i ≡ Some s
      → (n : ℕ) × IsGiven words s i n × (given_in s p ≡ Some n)
  pub only : (s : Setting) (n : ℕ) → given_in s p ≡ Some n
      → (i : ℕ) × (option_at k words i ≡ Some s)
  pub once : (i j : ℕ) (s : Setting) → option_at k words i ≡ Some s → option_at k words j ≡ Some s
      → i ≡ j

-- no word stands behind position i, or one that is no value of the setting
abbrev pub HasNoValue : List (List ℕ) → Setting → ℕ → Type 0
HasNoValue words s i = (slice_get words (suc i) ≡ None)
    ⊎ ((word : List ℕ) × (slice_get words (suc i) ≡ Some word) × (value_of s word ≡ None))

-- an option at position i has no value, or stood before
pub record IsUnparted (k : Kind) (words : List (List ℕ)) : Type 0 where
  pub i : ℕ
  pub setting : Setting
  pub option : option_at k words i ≡ Some setting
  pub fault : HasNoValue words setting i
      ⊎ ((j : ℕ) × (j < i) × (option_at k words j ≡ Some setting))

-- words part in this way, and do not exactly where an option has no value or stands twice
abbrev pub PartingLaw : Type 0
PartingLaw = (k : Kind) (words : List (List ℕ))
    → MatchOption (parted k words) (IsUnparted k words) (IsParting k words)
