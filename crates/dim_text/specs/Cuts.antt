-- How a text is cut into lines, a line into words, and a word into the sides of a colon.
use Rattle.std.specs.Prelude.{◌≡◌, ℕ, false, List, [], ◌∷◌, ◌++◌, Option, Some, None, ◌==◌, All}
use Rattle.std.specs.List.{slice_split, join_with_byte}

-- the lines of a text, each ended by a line feed, and then what stands behind the last line feed
abbrev pub lines_of : List ℕ → List (List ℕ)
lines_of bytes = slice_split (λ b. b == 10) bytes

-- the words of a line, parted by spaces; an empty one shows a space too many
abbrev pub words_of : List ℕ → List (List ℕ)
words_of line = slice_split (λ b. b == 32) line

-- the part before the only colon, and the one behind it
abbrev pub two_sides : List (List ℕ) → Option (List ℕ × List ℕ)
two_sides (name ∷ offset ∷ []) = Some (name, offset)
two_sides _ = None

abbrev pub sides_of : List ℕ → Option (List ℕ × List ℕ)
sides_of word = two_sides (slice_split (λ b. b == 58) word)

-- the other way: the line of these words, the text of a line, and the word of two sides
abbrev pub line_of : List (List ℕ) → List ℕ
line_of words = join_with_byte 32 words

abbrev pub ended : List ℕ → List ℕ
ended line = line ++ 10 ∷ []

abbrev pub frame_word : List ℕ → List ℕ → List ℕ
frame_word name offset = name ++ 58 ∷ offset

-- none of the bytes is c
abbrev pub HasNo : ℕ → List ℕ → Type 0
HasNo c bytes = All (λ b. (b == c) ≡ false) bytes
