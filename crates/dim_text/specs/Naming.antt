-- Which words are names.
use Rattle.std.specs.Prelude.{◌≡◌, ℕ, Bool, true, ◌&&◌, ◌||◌, not, List, length, slice_index, nat_le, ◌==◌, if◌then◌else◌, Option, Some, None}
use Rattle.std.specs.Char.{is_ascii_alphanumeric, is_ascii_digit}
use Rattle.std.specs.List.{list_all}

-- a letter, a digit or `_`
abbrev pub is_name_byte : ℕ → Bool
is_name_byte c = is_ascii_alphanumeric c || c == 95

-- 1 to 24 of these, of which the first is no digit
abbrev pub is_name : List ℕ → Bool
is_name word = (nat_le 1 (length word) && nat_le (length word) 24)
    && (not (is_ascii_digit (slice_index word 0)) && list_all is_name_byte word)

abbrev pub IsName : List ℕ → Type 0
IsName word = is_name word ≡ true

-- the name that a word is
unfoldable pub name_of : List ℕ → Option (List ℕ)
name_of word = if is_name word then Some word else None
