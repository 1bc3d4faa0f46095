-- Signatures by their stacks: which are known, and what they count.
use Rattle.std.proofs.Common.{◌≡◌, ◌+◌, ◌<◌, ◌≤◌, ℕ, zero, suc, inl, inr, Bool, true, false, ltb, cond, List, [], ◌∷◌, ◌++◌, length, map, take, drop, get_or, Option, Some, None, refl, sym, ap, ap₂, ◌∙◌, arith}
use Rattle.std.specs.Prelude.{not, position, slice_get, slice_set}
use Rattle.std.specs.List.{filter, find, list_any, position_or_len}
use Rattle.std.proofs.lemmas.Bool.{cases_Bool, cond-true, cond-false, false≢true, or_parts, or_from}
use Rattle.std.proofs.lemmas.List.{get_or-take, length-take-le}
use Rattle.std.proofs.lemmas.List.Folds.{find_at, list_any_none}
use Rattle.std.proofs.lemmas.List.Sums.{fails_before_first}
use Rattle.std.proofs.lemmas.Option.{get_or_from_slice_get, slice_get_within}
use Rattle.dim_stack.specs.declared.Frame.{Frame}
use Rattle.dim_signature.specs.Sig.{Sig, counted, fresh}
use Rattle.dim_signature.specs.Catalogue.{IsCatalogue, changed_at, has_stacks, signature_number}
use Rattle.dim_signature.proofs.Exports.{own}
use Rattle.dim_history_file.proofs.Comparing.{any_at, any_none}
use Rattle.dim_merge.specs.Numbered.{unknown_to, with_yields, yields_of, yields_for}

pub first_is : {X : Type 0} (p : X → Bool) (xs : List X) (i : ℕ) → position p xs ≡ Some i → position_or_len p xs ≡ i
first_is p xs i e =
    let first = position_or_len p xs in
    elim (cases_Bool (ltb first (length xs))) [
      | inl x ↦ (let f : Some first ≡ Some i = sym (cond-true (ltb first (length xs)) (Some first) None x) ∙ e in cc)
      | inr x ↦ (let f : None ≡ Some i = sym (cond-false (ltb first (length xs)) (Some first) None x) ∙ e in cc)
    ]

find_none : {X : Type 0} (p : X → Bool) (xs : List X) → list_any p xs ≡ false → find p xs ≡ None
find_none p [] h = refl
find_none p (x ∷ xs) h =
    let q = or_parts (p x) (list_any p xs) h in
    cond-false (p x) (Some x) (find p xs) q.0 ∙ find_none p xs q.1

-- what is counted for some stacks, by the number of their signature
pub yields_found : (sigs : List Sig) (stacks : List (List Frame)) (n : ℕ) (s : Sig) → signature_number sigs stacks ≡ Some n → slice_get sigs n ≡ Some s → s.yields ≡ yields_for sigs stacks
yields_found sigs stacks n s e at =
    sym (ap yields_of (find_at (has_stacks stacks) sigs ∙ ap (slice_get sigs) (first_is (has_stacks stacks) sigs n e) ∙ at))

pub yields_missing : (sigs : List Sig) (stacks : List (List Frame)) → signature_number sigs stacks ≡ None → 0 ≡ yields_for sigs stacks
yields_missing sigs stacks e = sym (ap yields_of (find_none (has_stacks stacks) sigs (any_none (has_stacks stacks) sigs e)))

pub nowhere : (sigs : List Sig) (stacks : List (List Frame)) → list_any (has_stacks stacks) sigs ≡ false → signature_number sigs stacks ≡ None
nowhere sigs stacks e = go (signature_number sigs stacks) refl
  where
    go : (o : Option ℕ) → signature_number sigs stacks ≡ o → o ≡ None
    go None f = refl
    go (Some j) f = (let t = any_at (has_stacks stacks) sigs j (fresh 0 []) f in absurd (false≢true (sym e ∙ t)))

any_one_more : {X : Type 0} (p : X → Bool) (x : X) (ys : List X) (b : Bool) → p x ≡ false → list_any p ys ≡ false → list_any p (cond b (x ∷ ys) ys) ≡ false
any_one_more p x ys true h k = or_from (p x) (list_any p ys) h k
any_one_more p x ys false h k = k

any_filter : {X : Type 0} (p q : X → Bool) (xs : List X) → list_any p xs ≡ false → list_any p (filter q xs) ≡ false
any_filter p q [] h = refl
any_filter p q (x ∷ xs) h =
    let parts = or_parts (p x) (list_any p xs) h in
    any_one_more p x (filter q xs) (q x) parts.0 (any_filter p q xs parts.1)

pub none_kept : (q : Sig → Bool) (sigs : List Sig) (stacks : List (List Frame)) → list_any (has_stacks stacks) sigs ≡ false → signature_number (filter q sigs) stacks ≡ None
none_kept q sigs stacks e = nowhere (filter q sigs) stacks (any_filter (has_stacks stacks) q sigs e)

none_before : {X : Type 0} (p : X → Bool) (xs : List X) (i : ℕ) → position p xs ≡ Some i → i ≤ length xs → list_any p (take i xs) ≡ false
none_before p xs i e low =
    list_any_none p (take i xs) (λ k d h.
    let before : k < i = omega (arith, h, length-take-le i xs low) in
    ap p (get_or-take i xs k d before) ∙ fails_before_first p xs k d (omega (arith, before, first_is p xs i e)))

-- the stacks of a signature are new behind those before it, of which some are kept
pub new_kept : (q : Sig → Bool) (sigs : List Sig) (i : ℕ) (s : Sig) → IsCatalogue sigs → slice_get sigs i ≡ Some s → signature_number (filter q (take i sigs)) s.stacks ≡ None
new_kept q sigs i s catalogue at =
    none_kept q (take i sigs) s.stacks (none_before (has_stacks s.stacks) sigs i (own sigs catalogue i s at) (omega (arith, slice_get_within sigs i s at)))

-- one signature, as it is known or new
pub known_one : (known : List Sig) (s : Sig) (n : ℕ) → signature_number known s.stacks ≡ Some n → unknown_to known (s ∷ []) ≡ []
known_one known s n e = ap (λ b. cond (not b) (s ∷ []) []) (any_at (has_stacks s.stacks) known n (fresh 0 []) e)

pub new_one : (known : List Sig) (s : Sig) → signature_number known s.stacks ≡ None → unknown_to known (s ∷ []) ≡ s ∷ []
new_one known s e = ap (λ b. cond (not b) (s ∷ []) []) (any_none (has_stacks s.stacks) known e)

pub few_kept : {X : Type 0} (q : X → Bool) (xs : List X) → length (filter q xs) ≤ length xs
few_kept q [] = omega arith
few_kept q (x ∷ xs) = go (q x) (few_kept q xs)
  where
    go : (b : Bool) → length (filter q xs) ≤ length xs → length (cond b (x ∷ filter q xs) (filter q xs)) ≤ length (x ∷ xs)
    go true h = omega (arith, h)
    go false h = omega (arith, h)

-- ---- a list that is changed from the front
one_longer : {X : Type 0} (f : X → X) (xs : List X) (i : ℕ) → map f (take (suc (i + 1)) xs) ++ drop (suc (i + 1)) xs ≡ map f (take (suc i + 1) xs) ++ drop (suc i + 1) xs
one_longer f xs i = (let e : suc (i + 1) ≡ suc i + 1 = omega arith in ap (λ n. map f (take n xs) ++ drop n xs) e)

pub next_is : {X : Type 0} (f : X → X) (xs : List X) (i : ℕ) (d : X) → i < length xs → get_or (map f (take i xs) ++ drop i xs) i d ≡ get_or xs i d
next_is f [] i d h = absurd (omega (arith, h))
next_is f (x ∷ xs) zero d h = refl
next_is f (x ∷ xs) (suc i) d h = next_is f xs i d (omega (arith, h))

pub next_set : {X : Type 0} (f : X → X) (xs : List X) (i : ℕ) (d : X) → i < length xs → slice_set (map f (take i xs) ++ drop i xs) i (f (get_or xs i d)) ≡ map f (take (i + 1) xs) ++ drop (i + 1) xs
next_set f [] i d h = absurd (omega (arith, h))
next_set f (x ∷ xs) zero d h = refl
next_set f (x ∷ xs) (suc i) d h = ap (λ r. f x ∷ r) (next_set f xs i d (omega (arith, h))) ∙ one_longer f (x ∷ xs) i

-- the next one with the yields of both
pub next_counted : (others xs now new : List Sig) (i more : ℕ) (s : Sig) → i < length xs → now ≡ map (with_yields others) (take i xs) ++ drop i xs → slice_get now i ≡ Some s
    → more ≡ yields_for others s.stacks → new ≡ changed_at i (counted more) now → new ≡ map (with_yields others) (take (i + 1) xs) ++ drop (i + 1) xs
next_counted others xs now new i more s low is at m e =
    let d = fresh 0 [] in
    let f = with_yields others in
    let here : get_or now i d ≡ s = get_or_from_slice_get now i s d at in
    let same : get_or xs i d ≡ s = sym (next_is f xs i d low) ∙ ap (λ (ys : List Sig). get_or ys i d) (sym is) ∙ here in
    e
    ∙ ap (λ n. slice_set now i (counted n (get_or now i d))) m
    ∙ ap (λ (x : Sig). slice_set now i (counted (yields_for others s.stacks) x)) here
    ∙ ap₂ (λ (ys : List Sig) (x : Sig). slice_set ys i (f x)) is (sym same)
    ∙ next_set f xs i d low
