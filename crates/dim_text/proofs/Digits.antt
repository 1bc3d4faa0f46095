-- Numbers and their digits.
use Rattle.std.proofs.Common.{◌≡◌, ◌<◌, ◌≤◌, ◌+◌, ◌-◌, ◌*◌, ◌^◌, ℕ, Bool, true, false, ◌&&◌, cond, List, [], ◌∷◌, length, get_or, Option, Some, None, arith, rules, refl, sym, ap, ◌∙◌, ◌⊎◌, inl, inr, IfSome, IfNone, zero, suc, drop, drop-cons, add-one}
use Rattle.std.specs.Prelude.{not, ℤ, pos, negsuc, nat_lt, ◌==◌, option_and_then, FitsSigned}
use Rattle.std.specs.Int.{w64}
use Rattle.std.specs.Option.{option_map}
use Rattle.std.specs.Fmt.{decimal, signed_decimal}
use Rattle.std.proofs.Math.Nat.{pow-le-pow_right}
use Rattle.std.proofs.lemmas.Str.Parse.{IsNumeralModel, numerals_by_fold, not_in_digits}
use Rattle.std.proofs.lemmas.List.{get_or_default}
use Rattle.std.specs.Int.{IsInRange}
use Rattle.dim_text.specs.Cuts.{HasNo}
use Rattle.std.proofs.lemmas.Fmt.{decimal-digits_value, digits_decimal, digits_value-decimal, first_decimal, decimal_nonempty, decimal_digit}
use Rattle.std.proofs.lemmas.Bool.{leb-true, le-leb, eqb-true, ne_eqb}
use Rattle.std.proofs.lemmas.Bool.Decides.{nat_tests}
use Rattle.dim_text.specs.Numerals.{are_digits, is_number, value_after, value_of, number_of, below_zero, signed_of}

pub own : IsNumeralModel (λ ds. are_digits ds ≡ true) value_of
own = numerals_by_fold _ (search rules) value_after (search rules)

-- more digits make no less
pub value_after_ge : (cs : List ℕ) (n : ℕ) → n ≤ value_after n cs
value_after_ge [] n = omega arith
value_after_ge (c ∷ cs) n = omega (arith, value_after_ge cs (10 * n + (c - 48)))

pub value_after-drop : (word : List ℕ) (i n : ℕ) → i < length word → value_after n (drop i word) ≡ value_after (10 * n + (get_or word i 0 - 48)) (drop (i + 1) word)
value_after-drop word i n h = rw (drop-cons word i 0, add-one) refl

-- nineteen digits have room in 64 bits
pub digit_fits : (value i size : ℕ) → value < 10 ^ i → i < size → size ≤ 19 → 10 * value + 9 < 2 ^ 64
digit_fits value i size small within short =
    let low : i ≤ 18 = omega (arith, within, short) in
    let most : 10 ^ i ≤ 10 ^ 18 = pow-le-pow_right {n = 10} (omega arith) {i = i} {j = 18} low in
    omega (arith, most, small)

single_zero : (n : ℕ) → n < 2 ^ 64 → get_or (decimal n) 0 0 ≡ 48 → length (decimal n) ≡ 1
single_zero zero small e = ap length (decimal_digit 0 (omega arith))
single_zero (suc n) small e = absurd (omega (arith, first_decimal (suc n) (omega arith) small))

both : (a b : Bool) → (a && b) ≡ true → (a ≡ true) × (b ≡ true)
both true b h = (refl, h)
both false b h = cc

no_leading_zero : (l first : ℕ) → (first ≡ 48 → l ≡ 1) → not (nat_lt 1 l && first == 48) ≡ true
no_leading_zero l first h = grind (arith, nat_tests)

from_no_leading_zero : (l first : ℕ) → not (nat_lt 1 l && first == 48) ≡ true → not (l == 0) ≡ true → first ≡ 48 → l ≡ 1
from_no_leading_zero l first h some e = grind (arith, nat_tests)

some_test : (l : ℕ) → 0 < l → not (l == 0) ≡ true
some_test l h = grind (arith, nat_tests)

from_some_test : (l : ℕ) → not (l == 0) ≡ true → 0 < l
from_some_test l h = grind (arith, nat_tests)

-- what decimal spells is a number, and of this value
pub is_number-decimal : (n : ℕ) → n < 2 ^ 64 → is_number (decimal n) ≡ true
is_number-decimal n small =
    rw (
      some_test (length (decimal n)) (decimal_nonempty n small),
      no_leading_zero (length (decimal n)) (get_or (decimal n) 0 0) (single_zero n small),
      digits_decimal own n small,
    ) refl

pub value_of-decimal : (n : ℕ) → n < 2 ^ 64 → value_of (decimal n) ≡ n
value_of-decimal n small = digits_value-decimal own n small

-- a number is what decimal spells of its value
pub decimal-value_of : (word : List ℕ) → is_number word ≡ true → value_of word < 2 ^ 64 → decimal (value_of word) ≡ word
decimal-value_of word h small =
    let parts = both _ _ h in
    let more = both _ _ parts.1 in
    let some : 0 < length word = from_some_test _ parts.0 in
    decimal-digits_value own word more.1 some (from_no_leading_zero _ _ more.0 parts.0) small

pub number_of-decimal : (max n : ℕ) → max < 2 ^ 64 → n ≤ max → number_of max (decimal n) ≡ Some n
unfolding number_of
number_of-decimal max n small le =
    let value = value_of-decimal n (omega arith) in
    rw (is_number-decimal n (omega arith), value, le-leb _ _ le) refl

taken : (b c : Bool) (k n : ℕ) → cond (b && c) (Some k) None ≡ Some n → (b ≡ true) × (c ≡ true) × (k ≡ n)
taken true true k n e = (refl, refl, cc)
taken true false k n e = cc
taken false c k n e = cc

pub number_of-Some : (max n : ℕ) (word : List ℕ) → max < 2 ^ 64 → number_of max word ≡ Some n → (n ≤ max) × (word ≡ decimal n)
unfolding number_of
number_of-Some max n word small e =
    let here = taken _ _ _ _ e in
    let le : value_of word ≤ max = leb-true _ _ here.1 in
    (omega (arith, here.2), sym (decimal-value_of word here.0 (omega arith)) ∙ ap decimal here.2)

-- what a caller is told
pub found_given : (max : ℕ) (word : List ℕ) (r : Option ℕ) → max < 2 ^ 64 → r ≡ number_of max word → IfSome r (λ n. (n ≤ max) × (word ≡ decimal n))
found_given max word None small e = tt
found_given max word (Some n) small e = number_of-Some max n word small (sym e)

pub none_given : (max : ℕ) (word : List ℕ) (r : Option ℕ) → max < 2 ^ 64 → r ≡ number_of max word → IfNone r ((n : ℕ) → n ≤ max → word ≡ decimal n → ⊥)
none_given max word (Some n) small e = tt
none_given max word None small e = λ n le is. let found = number_of-decimal max n small le in cc

-- the same with a sign
first_digit : (n : ℕ) → n < 2 ^ 64 → 48 ≤ get_or (decimal n) 0 0
first_digit zero small = rw (decimal_digit 0 (omega arith)) (omega arith)
first_digit (suc n) small = omega (arith, first_decimal (suc n) (omega arith) small)

no_sign : (first : ℕ) → 48 ≤ first → (first == 45) ≡ false
no_sign first h = grind (arith, nat_tests)

pub signed_of-signed_decimal : (z : ℤ) → FitsSigned w64 z → signed_of (signed_decimal z) ≡ Some z
unfolding signed_of
signed_of-signed_decimal (pos n) fits =
    let small : n ≤ 2 ^ 63 - 1 = omega (arith, fits) in
    rw (no_sign (get_or (decimal n) 0 0) (first_digit n (omega arith)), number_of-decimal (2 ^ 63 - 1) n (omega arith) small) refl
signed_of-signed_decimal (negsuc n) fits =
    let small : suc n ≤ 2 ^ 63 = omega (arith, fits) in
    rw (number_of-decimal (2 ^ 63) (suc n) (omega arith) small) refl

positive_Some : (o : Option ℕ) (z : ℤ) → option_map pos o ≡ Some z → (n : ℕ) × (o ≡ Some n) × (z ≡ pos n)
positive_Some (Some n) z e = (n, refl, cc)
positive_Some None z e = cc

below_zero_Some : (o : Option ℕ) (z : ℤ) → option_and_then below_zero o ≡ Some z → (n : ℕ) × (o ≡ Some (suc n)) × (z ≡ negsuc n)
below_zero_Some (Some zero) z e = cc
below_zero_Some (Some (suc n)) z e = (n, refl, cc)
below_zero_Some None z e = cc

chosen : {X : Type 0} (b : Bool) (x y z : X) → cond b x y ≡ z → ((b ≡ true) × (x ≡ z)) ⊎ ((b ≡ false) × (y ≡ z))
chosen true x y z e = inl (refl, e)
chosen false x y z e = inr (refl, e)

-- a word by its first byte and the others
signed_word : (word : List ℕ) → (get_or word 0 0 == 45) ≡ true → word ≡ 45 ∷ drop 1 word
signed_word [] h = cc
signed_word (c ∷ cs) h = ap (λ x. x ∷ cs) (eqb-true c 45 h)

pub signed_of-Some : (word : List ℕ) (z : ℤ) → signed_of word ≡ Some z → word ≡ signed_decimal z
unfolding signed_of
signed_of-Some word z e =
    elim (chosen (get_or word 0 0 == 45) _ _ _ e) [
      | inl minus ↦
          let below = below_zero_Some _ z minus.1 in
          let digits = (number_of-Some (2 ^ 63) (suc below.0) (drop 1 word) (omega arith) below.1).1 in
          signed_word word minus.0 ∙ ap (λ ds. 45 ∷ ds) digits ∙ sym (ap signed_decimal below.2)
      | inr plain ↦
          let at = positive_Some _ z plain.1 in
          (number_of-Some (2 ^ 63 - 1) at.0 word (omega arith) at.1).1 ∙ sym (ap signed_decimal at.2)
    ]

pub signed_found_given : (word : List ℕ) (r : Option ℤ) → r ≡ signed_of word → IfSome r (λ z. word ≡ signed_decimal z)
signed_found_given word None e = tt
signed_found_given word (Some z) e = signed_of-Some word z (sym e)

pub signed_none_given : (word : List ℕ) (r : Option ℤ) → r ≡ signed_of word → IfNone r ((z : ℤ) → FitsSigned w64 z → word ≡ signed_decimal z → ⊥)
signed_none_given word (Some z) e = tt
signed_none_given word None e = λ z fits is. let found = signed_of-signed_decimal z fits in cc

-- the other bytes that a number has none of
pub HasNo-decimal : (c n : ℕ) → ¬ (IsInRange 48 57 c) → n < 2 ^ 64 → HasNo c (decimal n)
HasNo-decimal c n other small =
    λ k d h. ne_eqb _ _ (λ e. not_in_digits own (decimal n) c (digits_decimal own n small) other k h (get_or_default (decimal n) k 0 d h ∙ e))
