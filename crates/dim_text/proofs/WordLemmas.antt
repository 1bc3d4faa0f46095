-- What is so where words are taken.
use Rattle.std.proofs.Common.{◌≡◌, ◌≤◌, ◌<◌, ◌^◌, ℕ, Bool, true, false, ◌⊎◌, inl, inr, cond, List, [], ◌∷◌, Option, Some, None, Ok, refl, ap, ◌∙◌, arith, option_and_then, nat_le, leb-true}
use Rattle.std.specs.Fmt.{decimal}
use Rattle.dim_text.specs.Numerals.{number_of, at_least, number_from}
use Rattle.dim_text.specs.Reading.{◌>>=◌}
use Rattle.dim_text.specs.Words.{unless, filled, one_word, two_words}
use Rattle.dim_text.proofs.Digits.{number_of-Some}
use Rattle.dim_text.proofs.ReadingLemmas.{bind_ok}

pub chosen : {X : Type 0} (b : Bool) (x y z : X) → cond b x y ≡ z → ((b ≡ true) × (x ≡ z)) ⊎ ((b ≡ false) × (y ≡ z))
chosen true x y z e = inl (refl, e)
chosen false x y z e = inr (refl, e)

pub unless_ok : {K : Type 0} (b : Bool) (kind : K) (u : Unit {0}) → unless b kind ≡ Ok u → b ≡ false
unless_ok true kind u e = cc
unless_ok false kind u e = refl

pub filled_ok : {K : Type 0} (word w : List ℕ) (kind : K) → filled word kind ≡ Ok w → word ≡ w
filled_ok [] w kind e = cc
filled_ok (c ∷ cs) w kind e = cc

pub one_word_ok : {K : Type 0} (words : List (List ℕ)) (w : List ℕ) (kind : K) → one_word words kind ≡ Ok w → words ≡ w ∷ []
one_word_ok [] w kind e = cc
one_word_ok (word ∷ []) w kind e = ap (λ x. x ∷ []) (filled_ok word w kind e)
one_word_ok (word ∷ next ∷ words) w kind e = cc

pub two_words_ok : {K : Type 0} (words : List (List ℕ)) (p : List ℕ × List ℕ) (kind : K) → two_words words kind ≡ Ok p → words ≡ p.0 ∷ p.1 ∷ []
two_words_ok [] p kind e = cc
two_words_ok (first ∷ words) p kind e =
    let a = bind_ok (filled first kind) (λ x. one_word words kind >>= λ y. let pair : List ℕ × List ℕ = (x, y) in Ok pair) p e in
    let b = bind_ok (one_word words kind) (λ y. let pair : List ℕ × List ℕ = (a.0, y) in Ok pair) p a.2 in
    let pair : ◌≡◌ {A = List ℕ × List ℕ} (a.0, b.0) p = cc (b.2) in
    ap (λ x. x ∷ words) (filled_ok first a.0 kind a.1) ∙ ap (λ ws. a.0 ∷ ws) (one_word_ok words b.0 kind b.1) ∙ ap (λ q. q.0 ∷ q.1 ∷ []) pair

at_least_ok : (low m n : ℕ) → at_least low m ≡ Some n → (low ≤ m) × (m ≡ n)
at_least_ok low m n e =
    elim (chosen (nat_le low m) _ _ _ e) [
      | inl is ↦ (leb-true low m is.0, cc (is.1))
      | inr other ↦ cc (other.1)
    ]

from_ok : (low n : ℕ) (o : Option ℕ) → option_and_then (at_least low) o ≡ Some n → (low ≤ n) × (o ≡ Some n)
from_ok low n None e = cc
from_ok low n (Some m) e = let h = at_least_ok low m n e in (omega (arith, h.0, h.1), ap Some h.1)

pub number_from_ok : (low high n : ℕ) (word : List ℕ) → high < 2 ^ 64 → number_from low high word ≡ Some n → (low ≤ n) × (n ≤ high) × (word ≡ decimal n)
number_from_ok low high n word small e =
    let h = from_ok low n (number_of high word) e in
    let found = number_of-Some high n word small h.1 in
    (h.0, found.0, found.1)
