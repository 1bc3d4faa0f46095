-- A line cut at its first space.
use Rattle.std.proofs.Common.{◌≡◌, ◌≢◌, ◌<◌, ◌≤◌, ◌+◌, ◌-◌, ℕ, Bool, true, false, cond, ltb, List, [], ◌∷◌, length, take, drop, Some, None, Ok, Err, arith, refl, sym, ap, ◌∙◌, subst}
use Rattle.std.specs.List.{slice_split, position, position_or_len}
use Rattle.std.proofs.Math.Seq.{take-length}
use Rattle.std.proofs.lemmas.List.{length-drop}
use Rattle.std.proofs.lemmas.Bool.{ltb-true, ltb-false}
use Rattle.std.specs.Prelude.{◌==◌}
use Rattle.std.proofs.lemmas.List.Splits.{slice_split_first, slice_split_none, length-slice_split}
use Rattle.std.proofs.lemmas.List.Sums.{fails_before_first}
use Rattle.dim_text.specs.Cuts.{words_of}
use Rattle.dim_log.specs.declared.log.LogFaultKind.TheVariants as kind
use Rattle.dim_log.specs.Saying.{some_words, last_of}

chosen : (b : Bool) (k i : ℕ) → cond b (Some k) None ≡ Some i → (b ≡ true) × (k ≡ i)
chosen true k i e = (refl, cc)
chosen false k i e = cc

not_chosen : (b : Bool) (k : ℕ) → cond b (Some k) None ≡ None → b ≡ false
not_chosen true k e = cc
not_chosen false k e = refl

rest_of : (k : ℕ) (bs : List ℕ) → take (length bs - k) (drop k bs) ≡ drop k bs
rest_of k bs = ap (λ n. take n (drop k bs)) (sym (length-drop k bs)) ∙ take-length (drop k bs)

-- at a separator
pub split_at_place : (p : ℕ → Bool) (bs : List ℕ) (i : ℕ) → position p bs ≡ Some i → (i < length bs) × (slice_split p bs ≡ take i bs ∷ slice_split p (take (length bs - (i + 1)) (drop (i + 1) bs)))
split_at_place p bs i e =
    let here = chosen (ltb (position_or_len p bs) (length bs)) (position_or_len p bs) i e in
    let within : position_or_len p bs < length bs = ltb-true _ _ here.0 in (
      omega (arith, here.1, within),
      rw rest_of (subst (λ k. slice_split p bs ≡ take k bs ∷ slice_split p (drop (k + 1) bs)) here.1 (slice_split_first p bs 0 within)),
    )

-- where there is none
pub split_at_none : (p : ℕ → Bool) (bs : List ℕ) → position p bs ≡ None → slice_split p bs ≡ bs ∷ []
split_at_none p bs e =
    let past : length bs ≤ position_or_len p bs = ltb-false _ _ (not_chosen _ _ e) in
    slice_split_none p bs (λ k d h. fails_before_first p bs k d (omega arith))

-- a list has at least one part
pub some_part : (line : List ℕ) → words_of line ≡ [] → ⊥
some_part line e = omega (arith, length-slice_split (λ b. b == 32) line, ap length e)

pub some_words_of : (line : List ℕ) → some_words (words_of line) ≡ Ok (words_of line)
some_words_of line = go (words_of line) (some_part line)
  where
    go : (words : List (List ℕ)) → words ≢ [] → some_words words ≡ Ok words
    go [] h = absurd (h refl)
    go (word ∷ words) h = refl

pub last_of_more : (word line : List ℕ) → last_of word (words_of line) ≡ Err kind.Long
last_of_more word line = go (words_of line) (some_part line)
  where
    go : (words : List (List ℕ)) → words ≢ [] → last_of word words ≡ Err kind.Long
    go [] h = absurd (h refl)
    go (more ∷ words) h = refl
