-- The last colon of a word.
use Rattle.std.proofs.Common.{◌≡◌, ◌<◌, ◌+◌, ◌-◌, ℕ, zero, suc, Bool, true, false, List, [], ◌∷◌, ◌++◌, length, take, drop, Option, Some, None, arith, refl, sym, ap, ◌∙◌, subst, if◌then◌else◌}
use Rattle.std.specs.Prelude.{◌==◌}
use Rattle.std.proofs.Math.Seq.{take-length}
use Rattle.std.proofs.lemmas.List.{length-drop}
use Rattle.std.proofs.lemmas.Bool.{eqb-true, false_from_ne_true}
use Rattle.memchr.specs.Find.{IsLastByte, NoneAfter, Passes, is_byte}
use Rattle.dim_log.specs.Saying.{last_sides, with_first}

abbrev IsColon : List ℕ → ℕ → Type 0
IsColon word k = Passes (is_byte 58) word k

pub sides_none : (word : List ℕ) → IsLastByte (is_byte 58) word None → last_sides word ≡ None
sides_none [] h = refl
sides_none (c ∷ cs) h =
    let rest = sides_none cs (λ k low high p. h (suc k) (omega arith) (omega (arith, high)) p) in
    let here : (c == 58) ≡ false = false_from_ne_true (c == 58) (h 0 (omega arith) (omega arith)) in
    ap (λ r. with_first c r cs) rest ∙ ap (λ b. if b then Some ([], cs) else None) here

at_place : (word : List ℕ) (k : ℕ) → IsLastByte (is_byte 58) word (Some k) → last_sides word ≡ Some (take k word, drop (k + 1) word)
at_place [] k h = absurd (omega (arith, h.0.high))
at_place (c ∷ cs) zero h =
    let rest = sides_none cs (λ k low high p. h.0.after (suc k) (omega arith) (omega (arith, high)) p) in
    ap (λ r. with_first c r cs) rest ∙ ap (λ b. if b then Some ([], cs) else None) h.1
at_place (c ∷ cs) (suc k) h =
    let first : NoneAfter (IsColon cs) 0 (length cs) k = record {
      low = omega arith;
      high = omega (arith, h.0.high);
      after = λ j low high p. h.0.after (suc j) (omega (arith, low)) (omega (arith, high)) p;
    } in
    let further : suc k + 1 ≡ suc (k + 1) = omega arith in
    let behind : drop (suc k + 1) (c ∷ cs) ≡ drop (k + 1) cs = ap (λ n. drop n (c ∷ cs)) further in
    ap (λ r. with_first c r cs) (at_place cs k (first, h.1)) ∙ ap (λ r. Some (take (suc k) (c ∷ cs), r)) (sym behind)

pub sides_some : (word : List ℕ) (k : ℕ) → IsLastByte (is_byte 58) word (Some k) → (k < length word) × (last_sides word ≡ Some (take k word, take (length word - (k + 1)) (drop (k + 1) word)))
sides_some word k h =
    let rest : take (length word - (k + 1)) (drop (k + 1) word) ≡ drop (k + 1) word = ap (λ n. take n (drop (k + 1) word)) (sym (length-drop (k + 1) word)) ∙ take-length (drop (k + 1) word) in
    (h.0.high, at_place word k h ∙ ap (λ r. Some (take k word, r)) (sym rest))

-- the sides make the word
pub sides_ok : (word : List ℕ) (sides : List ℕ × List ℕ) → last_sides word ≡ Some sides → word ≡ sides.0 ++ 58 ∷ sides.1
sides_ok [] sides e = cc
sides_ok (c ∷ cs) sides e = go (last_sides cs) (λ s h. sides_ok cs s h) e
  where
    here : (b : Bool) → c == 58 ≡ b → (if b then Some ([], cs) else None) ≡ Some sides → c ∷ cs ≡ sides.0 ++ 58 ∷ sides.1
    here true is h =
        let same : ◌≡◌ {A = List ℕ × List ℕ} ([], cs) sides = cc (h) in
        subst (λ (s : List ℕ × List ℕ). c ∷ cs ≡ s.0 ++ 58 ∷ s.1) same (ap (λ x. x ∷ cs) (eqb-true c 58 is))
    here false is h = cc (h)

    go : (r : Option (List ℕ × List ℕ)) → ((s : List ℕ × List ℕ) → r ≡ Some s → cs ≡ s.0 ++ 58 ∷ s.1) → with_first c r cs ≡ Some sides → c ∷ cs ≡ sides.0 ++ 58 ∷ sides.1
    go (Some s) h k =
        let same : ◌≡◌ {A = List ℕ × List ℕ} (c ∷ s.0, s.1) sides = cc (k) in
        subst (λ (s : List ℕ × List ℕ). c ∷ cs ≡ s.0 ++ 58 ∷ s.1) same (ap (λ x. c ∷ x) (h s refl))
    go None h k = here (c == 58) refl k
