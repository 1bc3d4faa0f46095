-- The words of the program.
use Rattle.std.specs.Prelude.{ℕ, nat_le, not, ◌==◌, ◌&&◌, ◌||◌, Bool, false, if◌then◌else◌, List, [], ◌∷◌, length, Option, Some, None, codes}
use Rattle.std.specs.Str.{bytes_eq}
use Rattle.dim_merge.specs.declared.words.MergeWords as code

-- the names of two histories and of the one that is made of them
pub record MergeWords : Type 0 where
  pub first : List ℕ
  pub second : List ℕ
  pub new_history : List ℕ

abbrev pub words_of : code.MergeWords → MergeWords
words_of w = record { first = w.first.now; second = w.second.now; new_history = w.new_history.now }

-- a lone dash, for the history that knows no signature
abbrev pub is_dash : List ℕ → Bool
is_dash word = bytes_eq word (codes "-")

-- 1 to 255 bytes, of which the first is no dash
abbrev pub is_name : List ℕ → Bool
is_name [] = false
is_name (b ∷ bytes) = not (b == 45) && nat_le (length (b ∷ bytes)) 255

abbrev pub is_source : List ℕ → Bool
is_source word = is_dash word || is_name word

-- the file written is none of those read
abbrev pub are_apart : MergeWords → Bool
are_apart w = not (bytes_eq w.new_history w.first) && not (bytes_eq w.new_history w.second)

abbrev pub are_words : MergeWords → Bool
are_words w = is_source w.first && is_source w.second && is_name w.new_history && are_apart w

-- `FIRST SECOND NEWHISTORY`
abbrev pub merge_words : List (List ℕ) → Option MergeWords
merge_words (first ∷ second ∷ new_history ∷ []) =
    let w : MergeWords = record { first = first; second = second; new_history = new_history } in if are_words w then Some w else None
merge_words words = None
