-- A list cut at its first separator.
use Rattle.std.proofs.Common.{◌≡◌, ◌≢◌, ◌<◌, ◌≤◌, ◌+◌, ◌-◌, ℕ, Bool, true, false, cond, ltb, List, [], ◌∷◌, length, take, drop, Some, None, arith, refl, sym, ap, ◌∙◌, subst}
use Rattle.std.specs.List.{slice_split, position, position_or_len}
use Rattle.std.proofs.Math.Seq.{take-length}
use Rattle.std.proofs.lemmas.List.{length-drop}
use Rattle.std.proofs.lemmas.Bool.{ltb-true, ltb-false}
use Rattle.std.proofs.lemmas.List.Splits.{slice_split_first, slice_split_none, length-slice_split}
use Rattle.std.proofs.lemmas.List.Sums.{fails_before_first}
use Rattle.dim_text.specs.Cuts.{two_sides}

chosen : (b : Bool) (k i : ℕ) → cond b (Some k) None ≡ Some i → (b ≡ true) × (k ≡ i)
chosen true k i e = (refl, cc)
chosen false k i e = cc

not_chosen : (b : Bool) (k : ℕ) → cond b (Some k) None ≡ None → b ≡ false
not_chosen true k e = cc
not_chosen false k e = refl

rest_of : (k : ℕ) (bs : List ℕ) → take (length bs - k) (drop k bs) ≡ drop k bs
rest_of k bs = ap (λ n. take n (drop k bs)) (sym (length-drop k bs)) ∙ take-length (drop k bs)

-- at a separator
pub split_at_place : (p : ℕ → Bool) (bs : List ℕ) (i : ℕ) → position p bs ≡ Some i → (i < length bs) × (slice_split p bs ≡ take i bs ∷ slice_split p (take (length bs - (i + 1)) (drop (i + 1) bs)))
split_at_place p bs i e =
    let here = chosen (ltb (position_or_len p bs) (length bs)) (position_or_len p bs) i e in
    let within : position_or_len p bs < length bs = ltb-true _ _ here.0 in (
      omega (arith, here.1, within),
      rw rest_of (subst (λ k. slice_split p bs ≡ take k bs ∷ slice_split p (drop (k + 1) bs)) here.1 (slice_split_first p bs 0 within)),
    )

-- where there is none
pub split_at_none : (p : ℕ → Bool) (bs : List ℕ) → position p bs ≡ None → slice_split p bs ≡ bs ∷ []
split_at_none p bs e =
    let past : length bs ≤ position_or_len p bs = ltb-false _ _ (not_chosen _ _ e) in
    slice_split_none p bs (λ k d h. fails_before_first p bs k d (omega arith))

-- a list has at least one part
pub some_part : (p : ℕ → Bool) (bs : List ℕ) → slice_split p bs ≡ [] → ⊥
some_part p bs e = omega (arith, length-slice_split p bs, ap length e)

-- a part behind two others leaves no two sides
pub more_sides : (p : ℕ → Bool) (name offset bs : List ℕ) → two_sides (name ∷ offset ∷ slice_split p bs) ≡ None
more_sides p name offset bs = more (slice_split p bs) (some_part p bs)
  where
    more : (parts : List (List ℕ)) → parts ≢ [] → two_sides (name ∷ offset ∷ parts) ≡ None
    more [] h = absurd (h refl)
    more (part ∷ parts) h = refl
