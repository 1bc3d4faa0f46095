-- The first position at which a test fails, by positions and as a loop finds it.
use Rattle.std.proofs.Common.{◌≡◌, ℕ, zero, suc, ◌+◌, ◌<◌, Bool, true, false, refl, ap, sym, ◌∙◌, subst, inl, inr, arith, add-one}
use Rattle.std.specs.Prelude.{Option, Some, None, if◌then◌else◌}
use Rattle.std.specs.Option.{option_or}
use Rattle.std.proofs.lemmas.Bool.{cases_lt, false≢true}
use Rattle.dim_rag.specs.FirstFailing.{first_failing, IsFirstFailing, FirstFailingLaw}

pub first_failing_law : FirstFailingLaw
first_failing_law test zero = λ i l. absurd (omega (arith, l))
first_failing_law test (suc k) = go (first_failing test k) (test k) refl (first_failing_law test k)
  where
    go : (o : Option ℕ) (b : Bool) → test k ≡ b → IsFirstFailing test k o → IsFirstFailing test (suc k) (option_or o (if b then None else Some k))
    go (Some i) b q w = (omega (arith, w.0), w.1, w.2)
    go None false q w = (omega arith, q, w)
    go None true q w = λ i l. elim (cases_lt i k) [
      | inl less ↦ w i less
      | inr le ↦ subst (λ j. test j ≡ true) (let e : k ≡ i = omega (arith, l, le) in e) q
    ]

module _ (test : ℕ → Bool) where
  pub none_failing : (k : ℕ) → first_failing test k ≡ None → (i : ℕ) → i < k → test i ≡ true
  none_failing k q = subst (IsFirstFailing test k) q (first_failing_law test k)

  pub failing_none : (k : ℕ) → ((i : ℕ) → i < k → test i ≡ true) → first_failing test k ≡ None
  failing_none k f = go (first_failing test k) (first_failing_law test k)
    where
      go : (o : Option ℕ) → IsFirstFailing test k o → o ≡ None
      go None w = refl
      go (Some i) w = absurd (false≢true (sym w.1 ∙ f i w.0))

  -- one more position
  one_more : (i : ℕ) (b : Bool) → test i ≡ b → first_failing test i ≡ None → first_failing test (suc i) ≡ (if b then None else Some i)
  one_more i b q r = ap (λ o. option_or o (if test i then None else Some i)) r ∙ ap (λ x. if x then None else Some i) q

  pub goes_on : (i : ℕ) → test i ≡ true → first_failing test i ≡ None → first_failing test (i + 1) ≡ None
  goes_on i q r = ap (first_failing test) (add-one i) ∙ one_more i true q r

  pub stops : (i : ℕ) → test i ≡ false → first_failing test i ≡ None → (k : ℕ) → i < k → first_failing test k ≡ Some i
  stops i q r zero l = absurd (omega (arith, l))
  stops i q r (suc k) l = elim (cases_lt i k) [
    | inl a ↦ ap (λ o. option_or o (if test k then None else Some k)) (stops i q r k a)
    | inr b ↦ let e : k ≡ i = omega (arith, l, b) in ap (λ j. first_failing test (suc j)) e ∙ one_more i false q r
  ]
