-- No two of the signatures have the same stacks.
use Rattle.std.proofs.Common.{◌≡◌, ◌≢◌, ◌+◌, ◌-◌, ◌<◌, ◌≤◌, ℕ, zero, suc, inl, inr, false, List, [], ◌∷◌, ◌++◌, length, map, take, drop, get_or, Option, Some, None, refl, sym, ap, ◌∙◌, subst, arith, append_assoc}
use Rattle.std.specs.Prelude.{slice_get}
use Rattle.std.specs.List.{list_any}
use Rattle.std.proofs.lemmas.Bool.{cases_lt, false≢true, not-true}
use Rattle.std.proofs.lemmas.List.{drop_more, length-append, length-map, get_or_append_left, get_or-append_right, take-append-drop}
use Rattle.std.proofs.lemmas.List.Elements.{filter_passes}
use Rattle.std.proofs.lemmas.List.Folds.{list_any_at}
use Rattle.std.proofs.lemmas.List.Kept.{AllPairs-filter}
use Rattle.std.proofs.lemmas.Option.{get_or_from_slice_get, slice_get_within}
use Rattle.dim_signature.specs.Sig.{Sig}
use Rattle.dim_signature.specs.Catalogue.{has_stacks, signature_number}
use Rattle.dim_signature.proofs.Exports.{found, has_stacks-Decides}
use Rattle.dim_merge.specs.Numbered.{AreDifferent, with_yields, is_unknown_to, unknown_to}

stacks_stay : (others sigs : List Sig) (k : ℕ) (d : Sig) → (get_or (map (with_yields others) sigs) k d).stacks ≡ (get_or sigs k d).stacks
stacks_stay others [] k d = refl
stacks_stay others (s ∷ sigs) zero d = refl
stacks_stay others (s ∷ sigs) (suc k) d = stacks_stay others sigs k d

known_differ : (others sigs : List Sig) → AreDifferent sigs → AreDifferent (map (with_yields others) sigs)
known_differ others sigs pairs = λ i j d l h e.
    pairs i j d l (omega (arith, h, length-map sigs (with_yields others))) (sym (stacks_stay others sigs i d) ∙ e ∙ stacks_stay others sigs j d)

-- one that is known has other stacks than one that is not
apart : (others first second : List Sig) (i j : ℕ) (d : Sig) → i < length (map (with_yields others) first) → j < length (unknown_to first second)
    → (get_or (map (with_yields others) first) i d).stacks ≢ (get_or (unknown_to first second) j d).stacks
apart others first second i j d h k e =
    let y = get_or (unknown_to first second) j d in
    let same : (get_or first i d).stacks ≡ y.stacks = sym (stacks_stay others first i d) ∙ e in
    let here = list_any_at (has_stacks y.stacks) first i d (omega (arith, h, length-map first (with_yields others))) ((has_stacks-Decides y.stacks (get_or first i d)).1 same) in
    let none : list_any (has_stacks y.stacks) first ≡ false = not-true (list_any (has_stacks y.stacks) first) (filter_passes (is_unknown_to first) second j d k) in
    false≢true (sym none ∙ here)

join_different : (a b : List Sig) → AreDifferent a → AreDifferent b
    → ((i j : ℕ) (d : Sig) → i < length a → j < length b → (get_or a i d).stacks ≢ (get_or b j d).stacks) → AreDifferent (a ++ b)
join_different a b p q cross = λ i j d l h e.
    let size = length-append a b in
    let left = λ (k : ℕ) (m : k < length a). get_or_append_left a b d k m in
    let right = λ (k : ℕ) (m : length a ≤ k). get_or-append_right a b (length a) k d refl m in
    elim (cases_lt j (length a)) [
      | inl x ↦ p i j d l x (ap (λ (s : Sig). s.stacks) (sym (left i (omega (arith, l, x)))) ∙ e ∙ ap (λ (s : Sig). s.stacks) (left j x))
      | inr x ↦ elim (cases_lt i (length a)) [
        | inl y ↦ cross i (j - length a) d y (omega (arith, h, size, x)) (ap (λ (s : Sig). s.stacks) (sym (left i y)) ∙ e ∙ ap (λ (s : Sig). s.stacks) (right j x))
        | inr y ↦ q (i - length a) (j - length a) d (omega (arith, l, x, y)) (omega (arith, h, size, x)) (ap (λ (s : Sig). s.stacks) (sym (right i y)) ∙ e ∙ ap (λ (s : Sig). s.stacks) (right j x))
      ]
    ]

pub parts_differ : (first second : List Sig) → AreDifferent first → AreDifferent second → AreDifferent (map (with_yields second) first ++ unknown_to first second)
parts_differ first second p q =
    join_different (map (with_yields second) first) (unknown_to first second) (known_differ second first p)
    (AllPairs-filter (λ (s t : Sig). s.stacks ≢ t.stacks) (is_unknown_to first) second q) (apart second first second)

-- where no two have the same stacks, the first of the others is new
pub is_new : (sigs : List Sig) (s : Sig) (ss : List Sig) → AreDifferent (sigs ++ s ∷ ss) → signature_number sigs s.stacks ≡ None
is_new sigs s ss a = go (signature_number sigs s.stacks) refl
  where
    go : (o : Option ℕ) → signature_number sigs s.stacks ≡ o → signature_number sigs s.stacks ≡ None
    go None q = q
    go (Some n) q =
        let f = found sigs s.stacks n q in
        let low : n < length sigs = slice_get_within sigs n f.0 f.1 in
        let all : length (sigs ++ s ∷ ss) ≡ length sigs + length (s ∷ ss) = length-append sigs (s ∷ ss) in
        let one : get_or (sigs ++ s ∷ ss) n s ≡ f.0 = get_or_append_left sigs (s ∷ ss) s n low ∙ get_or_from_slice_get sigs n f.0 s f.1 in
        let zero_off : length sigs - length sigs ≡ 0 = omega arith in
        let two : get_or (sigs ++ s ∷ ss) (length sigs) s ≡ s = get_or-append_right sigs (s ∷ ss) (length sigs) (length sigs) s refl (omega arith) ∙ ap (λ k. get_or (s ∷ ss) k s) zero_off in
        absurd (a n (length sigs) s low (omega (arith, all)) (ap (λ (x : Sig). x.stacks) one ∙ f.2 ∙ sym (ap (λ (x : Sig). x.stacks) two)))

-- the next of the others is new behind the signatures and those of the others before it
pub next_new : (old others : List Sig) (i : ℕ) (s : Sig) → slice_get others i ≡ Some s → AreDifferent (old ++ others) → signature_number (old ++ take i others) s.stacks ≡ None
next_new old others i s at a =
    let behind = drop (i + 1) others in
    let low : i < length others = slice_get_within others i s at in
    let rest : drop i others ≡ s ∷ behind = drop_more others i s low ∙ ap (λ (x : Sig). x ∷ behind) (get_or_from_slice_get others i s s at) in
    let whole : (old ++ take i others) ++ s ∷ behind ≡ old ++ others =
    append_assoc old (take i others) (s ∷ behind) ∙ ap (λ (ss : List Sig). old ++ ss) (ap (λ (ss : List Sig). take i others ++ ss) (sym rest) ∙ take-append-drop i others) in
    is_new (old ++ take i others) s behind (subst AreDifferent (sym whole) a)
