-- Cutting undoes spelling, and spelling undoes cutting.
use Rattle.std.proofs.Common.{◌≡◌, ℕ, List, [], ◌∷◌, ◌++◌, Some, refl, sym, ap, ◌∙◌, append_assoc}
use Rattle.std.specs.Prelude.{◌==◌}
use Rattle.std.specs.List.{slice_split, join_with_byte, AllByRecursion}
use Rattle.std.proofs.lemmas.List.Splits.{join_with_byte-slice_split, slice_split_at, slice_split_none}
use Rattle.dim_text.specs.Cuts.{lines_of, words_of, two_sides, sides_of, line_of, ended, frame_word, HasNo}

-- a line at the front of a text is its first line
pub lines_of-ended : (line rest : List ℕ) → HasNo 10 line → lines_of (ended line ++ rest) ≡ line ∷ lines_of rest
lines_of-ended line rest none = ap lines_of (append_assoc line (10 ∷ []) rest) ∙ slice_split_at (λ b. b == 10) line 10 rest none refl

-- the words of a line that was made of them
pub words_of-line_of : (word : List ℕ) (words : List (List ℕ)) → AllByRecursion (HasNo 32) (word ∷ words) → words_of (line_of (word ∷ words)) ≡ word ∷ words
words_of-line_of word [] none = slice_split_none (λ b. b == 32) word none.0
words_of-line_of word (next ∷ words) none =
    slice_split_at (λ b. b == 32) word 32 (line_of (next ∷ words)) none.0 refl ∙ ap (λ ws. word ∷ ws) (words_of-line_of next words none.1)

-- a line that is made of its words
pub line_of-words_of : (line : List ℕ) → line_of (words_of line) ≡ line
line_of-words_of line = join_with_byte-slice_split 32 line

pub text_of-lines_of : (bytes : List ℕ) → join_with_byte 10 (lines_of bytes) ≡ bytes
text_of-lines_of bytes = join_with_byte-slice_split 10 bytes

-- the sides of a frame word
pub sides_of-frame_word : (name offset : List ℕ) → HasNo 58 name → HasNo 58 offset → sides_of (frame_word name offset) ≡ Some (name, offset)
sides_of-frame_word name offset left right =
    ap two_sides (slice_split_at (λ b. b == 58) name 58 offset left refl ∙ ap (λ parts. name ∷ parts) (slice_split_none (λ b. b == 58) offset right))

two_sides_Some : (parts : List (List ℕ)) (name offset : List ℕ) → two_sides parts ≡ Some (name, offset) → parts ≡ name ∷ offset ∷ []
two_sides_Some [] name offset e = cc
two_sides_Some (a ∷ []) name offset e = cc
two_sides_Some (a ∷ b ∷ []) name offset e = let same : ◌≡◌ {A = List ℕ × List ℕ} (a, b) (name, offset) = cc in ap (λ sides. sides.0 ∷ sides.1 ∷ []) same
two_sides_Some (a ∷ b ∷ c ∷ parts) name offset e = cc

pub frame_word-sides_of : (word name offset : List ℕ) → sides_of word ≡ Some (name, offset) → word ≡ frame_word name offset
frame_word-sides_of word name offset e =
    sym (join_with_byte-slice_split 58 word) ∙ ap (join_with_byte 58) (two_sides_Some (slice_split (λ b. b == 58) word) name offset e)
