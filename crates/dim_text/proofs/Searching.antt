-- The first place of a byte, as a search over the whole text gives it.
use Rattle.std.proofs.Common.{◌≡◌, ◌<◌, ℕ, Bool, cond, ltb, List, length, Option, Some, None, arith}
use Rattle.std.specs.Prelude.{◌==◌}
use Rattle.std.specs.List.{position}
use Rattle.std.proofs.lemmas.Bool.{false_from_ne_true}
use Rattle.std.proofs.lemmas.Bool.Decides.{nat_tests}
use Rattle.std.proofs.lemmas.List.Sums.{position_or_len_is}
use Rattle.memchr.specs.Find.{IsFirstByte, is_byte}

chosen : (k n i : ℕ) → k ≡ i → i < n → Some i ≡ cond (ltb k n) (Some k) None
chosen k n i e within = grind (arith, nat_tests)

not_chosen : (k n : ℕ) → k ≡ n → None ≡ cond (ltb k n) (Some k) None
not_chosen k n e = grind (arith, nat_tests)

pub first_is_position : (c : ℕ) (bs : List ℕ) (r : Option ℕ) → IsFirstByte (is_byte c) bs r → r ≡ position (λ b. b == c) bs
first_is_position c bs None h =
    let p : ℕ → Bool = is_byte c in
    not_chosen _ _ (position_or_len_is p bs (length bs) 0 (omega arith) (λ k low. false_from_ne_true _ (h k (omega arith) low)) (λ low. absurd (omega (arith, low))))
first_is_position c bs (Some i) h =
    let p : ℕ → Bool = is_byte c in
    let within : i < length bs = h.0.high in
    chosen _ _ i (position_or_len_is p bs i 0 (omega arith) (λ k low. false_from_ne_true _ (h.0.before k (omega arith) low)) (λ low. h.1)) within
