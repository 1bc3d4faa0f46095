-- The names that stand in a text before a colon.
use Rattle.std.specs.Prelude.{ℕ, List, [], ◌∷◌, Option, Some, None, if◌then◌else◌}
use Rattle.std.specs.List.{flat_map}
use Rattle.dim_text.specs.Cuts.{lines_of, words_of, sides_of}
use Rattle.dim_text.specs.Naming.{is_name}

abbrev pub name_in : Option (List ℕ × List ℕ) → List (List ℕ)
name_in None = []
name_in (Some (name, offset)) = if is_name name then name ∷ [] else []

-- those of a word, of words, of lines
abbrev pub names_in_word : List ℕ → List (List ℕ)
names_in_word word = name_in (sides_of word)

abbrev pub names_in_words : List (List ℕ) → List (List ℕ)
names_in_words words = flat_map names_in_word words

abbrev pub names_in_line : List ℕ → List (List ℕ)
names_in_line line = names_in_words (words_of line)

abbrev pub names_in_lines : List (List ℕ) → List (List ℕ)
names_in_lines lines = flat_map names_in_line lines

abbrev pub names_in : List ℕ → List (List ℕ)
names_in bytes = names_in_lines (lines_of bytes)
