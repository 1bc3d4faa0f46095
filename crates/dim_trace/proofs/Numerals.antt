-- The digits of small numbers.
use Rattle.std.proofs.Common.{◌≡◌, ℕ, ◌+◌, ◌<◌, ◌≤◌, ◌/◌, ◌%◌, ap, sym, ◌∙◌, arith, List, [], ◌∷◌, ◌++◌, Result, OnOk, append_assoc}
use Rattle.std.specs.Fmt.{decimal}
use Rattle.std.proofs.lemmas.Fmt.{decimal_digit, decimal_step}
use Rattle.std.proofs.lemmas.Result.{on_ok_weaker}

-- a number below 10 is one digit
pub digit_written : (new old : List ℕ) (n : ℕ) → n < 10 → new ≡ old ++ (48 + n) ∷ [] → new ≡ old ++ decimal n
digit_written new old n few e = e ∙ ap (λ ds. old ++ ds) (sym (decimal_digit n few))

pub one_digit : {T E : Type 0} (r : Result T E) (new old : List ℕ) (n : ℕ) → n < 10 → OnOk r (new ≡ old ++ (48 + n) ∷ [])
    → OnOk r (new ≡ old ++ decimal n)
one_digit r new old n few h = on_ok_weaker r (digit_written new old n few) h

-- the digits of one of two digits are those of its tens and of its ones
tens_and_ones : (n : ℕ) → 10 ≤ n → n < 100 → decimal (n / 10) ++ decimal (n % 10) ≡ decimal n
tens_and_ones n low high = ap (λ ds. decimal (n / 10) ++ ds) (decimal_digit (n % 10) (omega arith)) ∙ sym (decimal_step n low (omega arith))

pub two_written : (new mid old : List ℕ) (n : ℕ) → 10 ≤ n → n < 100 → mid ≡ old ++ (48 + n / 10) ∷ []
    → new ≡ mid ++ (48 + n % 10) ∷ [] → new ≡ old ++ decimal n
two_written new mid old n low high first e =
    digit_written new mid (n % 10) (omega arith) e
    ∙ ap (λ ds. ds ++ decimal (n % 10)) (digit_written mid old (n / 10) (omega arith) first)
    ∙ append_assoc old _ _
    ∙ ap (λ ds. old ++ ds) (tens_and_ones n low high)

pub two_digits : {T E : Type 0} (r : Result T E) (new mid old : List ℕ) (n : ℕ) → 10 ≤ n → n < 100 → mid ≡ old ++ decimal (n / 10)
    → OnOk r (new ≡ mid ++ decimal (n % 10)) → OnOk r (new ≡ old ++ decimal n)
two_digits r new mid old n low high first h =
    on_ok_weaker r (λ e. e ∙ ap (λ ds. ds ++ decimal (n % 10)) first ∙ append_assoc old _ _ ∙ ap (λ ds. old ++ ds) (tens_and_ones n low high)) h
