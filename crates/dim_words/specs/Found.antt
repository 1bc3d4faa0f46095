-- What is taken from what the parser found.
use Rattle.std.specs.Prelude.{ℕ, List, [], ◌∷◌, ◌++◌, Option, Some, None, option_and_then, option_map}
use Rattle.clap.specs.Words.{Text}
use Rattle.dim_words.specs.declared.kind.Setting.{Setting}
use Rattle.dim_words.specs.declared.kind.Setting.TheVariants.{Fuel, Quantum, Depth, Seed, Workers, Attempts}
use Rattle.dim_words.specs.declared.parting.Line.{Line}
use Rattle.dim_words.specs.Words.{Parted, Asked, value_of, asked_by}
use Rattle.dim_words.specs.Grammar.{Found}

-- the value that an option is given, where it is given one
abbrev pub given_value : Setting → Option Text → Option (Option ℕ)
given_value s None = Some None
given_value s (Some word) = option_map (λ n. Some n) (value_of s word)

abbrev pub one_more : Option Text → List Text
one_more None = []
one_more (Some word) = word ∷ []

abbrev pub names_from : Found → List Text
names_from f = ((one_more f.first ++ one_more f.second) ++ one_more f.third) ++ one_more f.fourth

-- a value, and then another
infixl 10 ◌>>=◌
abbrev pub ◌>>=◌ : {A B : Type 0} → Option A → (A → Option B) → Option B
o >>= f = option_and_then f o

-- these names, and the values of the options
abbrev pub taken_with : List Text → Found → Option Parted
taken_with names f = do
  fuel ← given_value Fuel f.fuel
  quantum ← given_value Quantum f.quantum
  depth ← given_value Depth f.depth
  seed ← given_value Seed f.seed
  workers ← given_value Workers f.workers
  attempts ← given_value Attempts f.attempts
  Some (record { names = names; fuel = fuel; quantum = quantum; depth = depth; seed = seed; workers = workers; attempts = attempts })

abbrev pub words_taken : Found → Option Parted
words_taken f = taken_with (names_from f) f

abbrev pub asked_line : Line → Option Asked
asked_line l = asked_by l.kind l.parting
