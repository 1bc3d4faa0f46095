-- The rows of lanes.
use Rattle.std.proofs.Common.{◌≡◌, ℕ, suc, ◌+◌, ◌<◌, ◌≤◌, refl, ap, sym, ◌∙◌, subst, arith, true, false, List, [], ◌∷◌, ◌++◌, length, take, drop, set, get_or, inl, inr}
use Rattle.std.specs.Prelude.{◌==◌, nat_le, ◌&&◌}
use Rattle.std.proofs.lemmas.Bool.{cases_Bool, eq-eqb, le-leb}
use Rattle.std.proofs.lemmas.List.{set_split, drop_more, get_or_default}
use Rattle.dim_base.specs.declared.Tid.{Tid}
use Rattle.dim_picture.specs.declared.rows.Slot.{Slot}
use Rattle.dim_picture.specs.Shapes.{first_free, with_taken}

-- at most one slot more
pub few_taken : (t : Tid) (p q : ℕ) (ss : List Slot) → length (with_taken t p q ss) ≤ length ss + 1
few_taken t p q [] = omega arith
few_taken t p q (s ∷ ss) = elim (cases_Bool ((s.t.0 == t.0) && nat_le s.until p)) [
  | inl y ↦ rw y (omega arith)
  | inr n ↦ rw n (let more = few_taken t p q ss in omega (arith, more))
]

module _ (t : Tid) (p q : ℕ) (s : Slot) (ss : List Slot) where
  -- a row of another lane
  pub other_free : (s.t.0 == t.0) ≡ false → first_free t.0 p (s ∷ ss) ≡ first_free t.0 p ss
  other_free n = rw n refl

  pub other_taken : (s.t.0 == t.0) ≡ false → with_taken t p q (s ∷ ss) ≡ s ∷ with_taken t p q ss
  other_taken n = rw n refl

  -- a row that is taken
  pub busy_free : (s.t.0 == t.0) ≡ true → nat_le s.until p ≡ false → first_free t.0 p (s ∷ ss) ≡ suc (first_free t.0 p ss)
  busy_free y n = rw y (rw n refl)

  pub busy_taken : (s.t.0 == t.0) ≡ true → nat_le s.until p ≡ false → with_taken t p q (s ∷ ss) ≡ s ∷ with_taken t p q ss
  busy_taken y n = rw y (rw n refl)

  -- one that is free
  pub found_free : (s.t.0 == t.0) ≡ true → nat_le s.until p ≡ true → first_free t.0 p (s ∷ ss) ≡ 0
  found_free y z = rw y (rw z refl)

  pub found_taken : (s.t.0 == t.0) ≡ true → nat_le s.until p ≡ true → with_taken t p q (s ∷ ss) ≡ record { t = s.t; until = q } ∷ ss
  found_taken y z = rw y (rw z refl)

-- the slots after the one at i was taken
pub taken_at : (t : Tid) (p q i : ℕ) (s : Slot) (ss : List Slot) → i < length ss → drop i ss ≡ s ∷ drop (i + 1) ss → (s.t.0 == t.0) ≡ true → nat_le s.until p ≡ true
    → take i ss ++ with_taken t p q (drop i ss) ≡ with_taken t p q ss → set ss i (record s { until = q }) ≡ with_taken t p q ss
taken_at t p q i s ss low parts y z so =
    set_split ss i (record s { until = q }) low
    ∙ ap (λ (n : ℕ). take i ss ++ record s { until = q } ∷ drop n ss) (let e : suc i ≡ i + 1 = omega arith in e)
    ∙ ap (λ (xs : List Slot). take i ss ++ xs) (sym (ap (with_taken t p q) parts ∙ found_taken t p q s (drop (i + 1) ss) y z))
    ∙ so

-- the same by what was read of the slots
pub taken_here : (t : Tid) (p q i : ℕ) (xs ss : List Slot) (s a b : Slot) → xs ≡ ss → i < length xs → s ≡ get_or xs i s → a ≡ get_or xs i a → b ≡ get_or xs i b → a.t.0 ≡ t.0 → b.until ≤ p
    → take i ss ++ with_taken t p q (drop i ss) ≡ with_taken t p q ss → set xs i (record { t = s.t; until = q }) ≡ with_taken t p q ss
taken_here t p q i xs ss s a b same low of_s of_a of_b is free so =
    let at : (x : Slot) → x ≡ get_or xs i x → x ≡ s = λ x e. e ∙ get_or_default xs i x s low ∙ sym of_s in
    let parts : drop i xs ≡ s ∷ drop (i + 1) xs = drop_more xs i s low ∙ ap (λ (x : Slot). x ∷ drop (i + 1) xs) (sym of_s) in
    let until : s.until ≤ p = (let e = ap (λ (x : Slot). x.until) (at b of_b) in omega (arith, e, free)) in
    taken_at t p q i s xs low parts (eq-eqb s.t.0 t.0 (ap (λ (x : Slot). x.t.0) (sym (at a of_a)) ∙ is)) (le-leb s.until p until)
    (subst (λ (zs : List Slot). take i zs ++ with_taken t p q (drop i zs) ≡ with_taken t p q zs) (sym same) so)
    ∙ ap (with_taken t p q) same
