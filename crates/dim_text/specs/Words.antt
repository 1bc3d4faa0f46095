-- The words of a line, where a fault has a kind of the format's own.
use Rattle.std.specs.Prelude.{ℕ, Bool, true, false, List, [], ◌∷◌, Result, Ok, Err}
use Rattle.std.specs.Option.{is_some}
use Rattle.dim_text.specs.Cuts.{sides_of}
use Rattle.dim_text.specs.Reading.{◌>>=◌}

-- a fault of this kind, where a test has found it
abbrev pub unless : {K : Type 0} → Bool → K → Result (Unit {0}) K
unless true kind = Err kind
unless false kind = Ok tt

-- a word that isn't empty, as it is between two spaces
abbrev pub filled : {K : Type 0} → List ℕ → K → Result (List ℕ) K
filled [] kind = Err kind
filled (c ∷ cs) kind = Ok (c ∷ cs)

-- one word more, or two
abbrev pub one_word : {K : Type 0} → List (List ℕ) → K → Result (List ℕ) K
one_word [] kind = Err kind
one_word (word ∷ []) kind = filled word kind
one_word (word ∷ next ∷ words) kind = Err kind

abbrev pub two_words : {K : Type 0} → List (List ℕ) → K → Result (List ℕ × List ℕ) K
two_words [] kind = Err kind
two_words (first ∷ words) kind = do
  a ← filled first kind
  b ← one_word words kind
  Ok (a, b)

-- whether a word has exactly one colon
abbrev pub has_sides : List ℕ → Bool
has_sides word = is_some (sides_of word)
