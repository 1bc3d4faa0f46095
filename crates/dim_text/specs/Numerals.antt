-- Which words are numbers, and of which value.
use Rattle.std.specs.Prelude.{ℕ, ◌+◌, ◌-◌, ◌*◌, ◌^◌, ℤ, pos, negsuc, suc, zero, Bool, ◌&&◌, not, drop, List, [], ◌∷◌, length, slice_index, nat_le, nat_lt, ◌==◌, if◌then◌else◌, Option, Some, None, option_and_then}
use Rattle.std.specs.Option.{option_map}
use Rattle.std.specs.Char.{is_ascii_digit}
use Rattle.std.specs.List.{list_all}

abbrev pub are_digits : List ℕ → Bool
are_digits word = list_all is_ascii_digit word

-- a zero before other digits
abbrev pub has_leading_zero : List ℕ → Bool
has_leading_zero word = nat_lt 1 (length word) && slice_index word 0 == 48

-- `0`, or decimal digits of which the first isn't 0
abbrev pub is_number : List ℕ → Bool
is_number word = not (length word == 0) && (not (has_leading_zero word) && are_digits word)

-- the number whose digits are those of n, and then these
abbrev pub value_after : ℕ → List ℕ → ℕ
value_after n [] = n
value_after n (c ∷ cs) = value_after (10 * n + (c - 48)) cs

abbrev pub value_of : List ℕ → ℕ
value_of digits = value_after 0 digits

-- the number that a word is, where it is at most max
unfoldable pub number_of : ℕ → List ℕ → Option ℕ
number_of max word = if is_number word && nat_le (value_of word) max then Some (value_of word) else None

-- a number other than 0, below 0
abbrev pub below_zero : ℕ → Option ℤ
below_zero zero = None
below_zero (suc n) = Some (negsuc n)

-- the signed number of 64 bits that a word is: a number, or `-` before a number other than 0
unfoldable pub signed_of : List ℕ → Option ℤ
signed_of word = if slice_index word 0 == 45 then option_and_then below_zero (number_of (2 ^ 63) (drop 1 word)) else option_map pos (number_of (2 ^ 63 - 1) word)

-- the number from low to high that a word is
abbrev pub at_least : ℕ → ℕ → Option ℕ
at_least low n = if nat_le low n then Some n else None

abbrev pub number_from : ℕ → ℕ → List ℕ → Option ℕ
number_from low high word = option_and_then (at_least low) (number_of high word)
