-- The stacks in order are those of any permutation that is in order.
use Rattle.std.proofs.Common.{◌≡◌, ℕ, ◌+◌, ◌<◌, ap, subst, refl, sym, ◌∙◌, arith, zero, suc, true, false, inl, inr, List, [], ◌∷◌, ◌++◌, length, get_or, set, take, drop}
use Rattle.std.specs.List.{swap, remove}
use Rattle.std.specs.List.Sorted.{IsPermutation}
use Rattle.std.proofs.lemmas.Bool.{cases_Bool, cases_eq, cond-true, cond-false, false≢true, false_from_ne_true}
use Rattle.std.proofs.lemmas.List.{set_split, set-get_or, get_or-set_same, get_or-set_other, length-set}
use Rattle.std.proofs.lemmas.List.Edits.{swap_is}
use Rattle.std.proofs.lemmas.List.Sorted.{IsPermutation-refl, IsPermutation-cons, IsPermutation-trans, IsPermutation-middle, IsPermutation-keeps, length_permutation}
use Rattle.dim_stack.specs.declared.Frame.{Frame}
use Rattle.std.specs.Ordering.{is_lt}
use Rattle.dim_signature.specs.Sorted.{AreSorted, stack_cmp, insert, sorted}
use Rattle.dim_signature.proofs.Ordered.{le, le_refl, le_back, le_trans, le_antisymm, not_lt-le, le-not_lt}

here : (s x : List Frame) (xs : List (List Frame)) → le s x ≡ true → insert s (x ∷ xs) ≡ s ∷ x ∷ xs
here s x xs e = cond-true (le s x) (s ∷ x ∷ xs) (x ∷ insert s xs) e

further : (s x : List Frame) (xs : List (List Frame)) → le s x ≡ false → insert s (x ∷ xs) ≡ x ∷ insert s xs
further s x xs e = cond-false (le s x) (s ∷ x ∷ xs) (x ∷ insert s xs) e

-- of two stacks, the one that goes here and the one that goes further
here_and_further : (a b x : List Frame) (xs : List (List Frame)) → le a x ≡ true → le b x ≡ false → insert a (insert b (x ∷ xs)) ≡ insert b (insert a (x ∷ xs))
here_and_further a b x xs p q =
    let after : le b a ≡ false = false_from_ne_true (le b a) (λ e. false≢true (sym q ∙ le_trans b a x e p)) in
    ap (insert a) (further b x xs q) ∙ here a x (insert b xs) p
    ∙ sym (ap (insert b) (here a x xs p) ∙ further b a (x ∷ xs) after ∙ ap (λ zs. a ∷ zs) (further b x xs q))

both_here : (a b x : List Frame) (xs : List (List Frame)) → le a x ≡ true → le b x ≡ true → le a b ≡ true → le b a ≡ false → insert a (insert b (x ∷ xs)) ≡ insert b (insert a (x ∷ xs))
both_here a b x xs p q r s =
    ap (insert a) (here b x xs q) ∙ here a b (x ∷ xs) r
    ∙ sym (ap (insert b) (here a x xs p) ∙ further b a (x ∷ xs) s ∙ ap (λ zs. a ∷ zs) (here b x xs q))

same_pair : (a b : List Frame) (xs : List (List Frame)) → a ≡ b → insert a (insert b xs) ≡ insert b (insert a xs)
same_pair a b xs e = subst (λ z. insert a (insert z xs) ≡ insert z (insert a xs)) e refl

insert_comm : (a b : List Frame) (xs : List (List Frame)) → insert a (insert b xs) ≡ insert b (insert a xs)
insert_comm a b [] =
    elim (cases_Bool (le a b)) [
      | inl r ↦ elim (cases_Bool (le b a)) [
        | inl s ↦ same_pair a b [] (le_antisymm a b r s)
        | inr s ↦ here a b [] r ∙ sym (further b a [] s)
      ]
      | inr r ↦ further a b [] r ∙ sym (here b a [] (le_back a b r))
    ]
insert_comm a b (x ∷ xs) =
    elim (cases_Bool (le a x)) [
      | inl p ↦ elim (cases_Bool (le b x)) [
        | inl q ↦ elim (cases_Bool (le a b)) [
          | inl r ↦ elim (cases_Bool (le b a)) [
            | inl s ↦ same_pair a b (x ∷ xs) (le_antisymm a b r s)
            | inr s ↦ both_here a b x xs p q r s
          ]
          | inr r ↦ sym (both_here b a x xs q p (le_back a b r) r)
        ]
        | inr q ↦ here_and_further a b x xs p q
      ]
      | inr p ↦ elim (cases_Bool (le b x)) [
        | inl q ↦ sym (here_and_further b a x xs q p)
        | inr q ↦
            ap (insert a) (further b x xs q) ∙ further a x (insert b xs) p
            ∙ ap (λ zs. x ∷ zs) (insert_comm a b xs)
            ∙ sym (ap (insert b) (further a x xs p) ∙ further b x (insert a xs) q)
      ]
    ]

sorted-middle : (xs : List (List Frame)) (y : List Frame) (ys : List (List Frame)) → sorted (xs ++ y ∷ ys) ≡ insert y (sorted (xs ++ ys))
sorted-middle [] y ys = refl
sorted-middle (x ∷ xs) y ys = ap (insert x) (sorted-middle xs y ys) ∙ insert_comm x y (sorted (xs ++ ys))

insert_permutes : (s : List Frame) (xs : List (List Frame)) → IsPermutation (s ∷ xs) (insert s xs)
insert_permutes s [] = IsPermutation-refl (s ∷ [])
insert_permutes s (x ∷ xs) =
    elim (cases_Bool (le s x)) [
      | inl p ↦ subst (IsPermutation (s ∷ x ∷ xs)) (sym (here s x xs p)) (IsPermutation-refl (s ∷ x ∷ xs))
      | inr p ↦ subst (IsPermutation (s ∷ x ∷ xs)) (sym (further s x xs p))
          (IsPermutation-trans (s ∷ x ∷ xs) (x ∷ s ∷ xs) (x ∷ insert s xs) (IsPermutation-middle (s ∷ []) x xs) (IsPermutation-cons x (s ∷ xs) (insert s xs) (insert_permutes s xs)))
    ]

-- the same stacks
pub sorted_permutes : (xs : List (List Frame)) → IsPermutation xs (sorted xs)
sorted_permutes [] = IsPermutation-refl []
sorted_permutes (x ∷ xs) = IsPermutation-trans (x ∷ xs) (x ∷ sorted xs) (insert x (sorted xs)) (IsPermutation-cons x xs (sorted xs) (sorted_permutes xs)) (insert_permutes x (sorted xs))

pub length-sorted : (xs : List (List Frame)) → length (sorted xs) ≡ length xs
length-sorted xs = length_permutation xs (sorted xs) (sorted_permutes xs)

length-insert : (s : List Frame) (xs : List (List Frame)) → length (insert s xs) ≡ length xs + 1
length-insert s xs = length_permutation (s ∷ xs) (insert s xs) (insert_permutes s xs) ∙ (let e : length (s ∷ xs) ≡ length xs + 1 = omega arith in e)

-- one stack less on both sides
insert-cancel : (y : List Frame) (xs zs : List (List Frame)) → insert y xs ≡ insert y zs → xs ≡ zs
insert-cancel y [] [] e = refl
insert-cancel y [] (z ∷ zs) e = absurd (omega (arith, length-insert y [], length-insert y (z ∷ zs), ap length e))
insert-cancel y (x ∷ xs) [] e = absurd (omega (arith, length-insert y [], length-insert y (x ∷ xs), ap length e))
insert-cancel y (x ∷ xs) (z ∷ zs) e =
    elim (cases_Bool (le y x)) [
      | inl p ↦ elim (cases_Bool (le y z)) [
        | inl q ↦ (let h : y ∷ x ∷ xs ≡ y ∷ z ∷ zs = sym (here y x xs p) ∙ e ∙ here y z zs q in cc)
        | inr q ↦ (let h : y ∷ x ∷ xs ≡ z ∷ insert y zs = sym (here y x xs p) ∙ e ∙ further y z zs q in
            let f : y ≡ z = cc in absurd (false≢true (sym q ∙ ap (le y) (sym f) ∙ le_refl y)))
      ]
      | inr p ↦ elim (cases_Bool (le y z)) [
        | inl q ↦ (let h : x ∷ insert y xs ≡ y ∷ z ∷ zs = sym (further y x xs p) ∙ e ∙ here y z zs q in
            let f : y ≡ x = cc in absurd (false≢true (sym p ∙ ap (le y) (sym f) ∙ le_refl y)))
        | inr q ↦ (let h : x ∷ insert y xs ≡ z ∷ insert y zs = sym (further y x xs p) ∙ e ∙ further y z zs q in
            let f : x ≡ z = cc in
            let g : insert y xs ≡ insert y zs = cc in
            let t = insert-cancel y xs zs g in cc)
      ]
    ]

sorted-set : (l : List (List Frame)) (i : ℕ) (a : List Frame) → i < length l → sorted (set l i a) ≡ insert a (sorted (remove l i))
sorted-set l i a h = ap sorted (set_split l i a h) ∙ sorted-middle (take i l) a (drop (suc i) l)

sorted-at : (l : List (List Frame)) (i : ℕ) → i < length l → sorted l ≡ insert (get_or l i []) (sorted (remove l i))
sorted-at l i h = ap sorted (sym (set-get_or l i [])) ∙ sorted-set l i (get_or l i []) h

module _ (l : List (List Frame)) (i j : ℕ) (hi : i < length l) (hj : j < length l) where
  sorted-swap : sorted (swap l i j) ≡ sorted l
  sorted-swap =
      let x = get_or l i [] in
      let y = get_or l j [] in
      let half = set l i y in
      let in_half : j < length half = omega (arith, length-set l i y) in
      let there : get_or half j [] ≡ y =
      elim (cases_eq j i) [
        | inl e ↦ ap (λ k. get_or half k []) e ∙ get_or-set_same l i y [] hi
        | inr n ↦ get_or-set_other l i j y [] n
      ] in
      let rest : sorted (remove half j) ≡ sorted (remove l i) =
      insert-cancel y (sorted (remove half j)) (sorted (remove l i))
      (ap (λ z. insert z (sorted (remove half j))) (sym there) ∙ sym (sorted-at half j in_half) ∙ sorted-set l i y hi) in
      ap sorted (sym (swap_is l i j [] hi hj)) ∙ sorted-set half j x in_half ∙ ap (insert x) rest ∙ sym (sorted-at l i hi)

sorted-permutation : (xs ys : List (List Frame)) → IsPermutation xs ys → sorted ys ≡ sorted xs
sorted-permutation xs ys p = IsPermutation-keeps xs (λ zs. sorted zs ≡ sorted xs) refl (λ l i j hi hj h. sorted-swap l i j hi hj ∙ h) ys p

-- the same as `AreSorted`, by recursion
abbrev Starts : List Frame → List (List Frame) → Type 0
Starts x [] = Unit {0}
Starts x (y ∷ ys) = le x y ≡ true

abbrev Ascends : List (List Frame) → Type 0
Ascends [] = Unit {0}
Ascends (x ∷ xs) = Starts x xs × Ascends xs

tail_sorted : (x : List Frame) (xs : List (List Frame)) → AreSorted (x ∷ xs) → AreSorted xs
tail_sorted x xs h = λ k d low high.
    let e : suc k + 1 ≡ suc (k + 1) = omega arith in
    subst (λ n. is_lt (stack_cmp (get_or (x ∷ xs) n d) (get_or xs k d)) ≡ false) e (h (suc k) d (omega arith) (omega arith))

sorted_ascends : (xs : List (List Frame)) → AreSorted xs → Ascends xs
sorted_ascends [] h = tt
sorted_ascends (x ∷ []) h = (tt, tt)
sorted_ascends (x ∷ y ∷ ys) h = (not_lt-le x y (h 0 [] (omega arith) (omega arith)), sorted_ascends (y ∷ ys) (tail_sorted x (y ∷ ys) h))

one_more : (x y : List Frame) (ys : List (List Frame)) → le x y ≡ true → AreSorted (y ∷ ys) → AreSorted (x ∷ y ∷ ys)
one_more x y ys e h zero d low high = le-not_lt x y e
one_more x y ys e h (suc k) d low high =
    let n : suc (k + 1) ≡ suc k + 1 = omega arith in
    subst (λ m. is_lt (stack_cmp (get_or (x ∷ y ∷ ys) m d) (get_or (y ∷ ys) k d)) ≡ false) n (h k d (omega arith) (omega arith))

ascends_sorted : (xs : List (List Frame)) → Ascends xs → AreSorted xs
ascends_sorted [] h = λ k d low high. absurd (omega arith)
ascends_sorted (x ∷ []) h = λ k d low high. absurd (omega arith)
ascends_sorted (x ∷ y ∷ ys) h = one_more x y ys h.0 (ascends_sorted (y ∷ ys) h.1)

starts-insert : (x s : List Frame) (xs : List (List Frame)) → le x s ≡ true → Starts x xs → Starts x (insert s xs)
starts-insert x s [] e h = e
starts-insert x s (y ∷ ys) e h = elim (cases_Bool (le s y)) [ inl p ↦ subst (Starts x) (sym (here s y ys p)) e | inr p ↦ subst (Starts x) (sym (further s y ys p)) h ]

ascends-insert : (s : List Frame) (xs : List (List Frame)) → Ascends xs → Ascends (insert s xs)
ascends-insert s [] h = (tt, tt)
ascends-insert s (x ∷ xs) h =
    elim (cases_Bool (le s x)) [
      | inl p ↦ subst Ascends (sym (here s x xs p)) (p, h)
      | inr p ↦ subst Ascends (sym (further s x xs p)) (starts-insert x s xs (le_back s x p) h.0, ascends-insert s xs h.1)
    ]

ascends-sorted : (xs : List (List Frame)) → Ascends (sorted xs)
ascends-sorted [] = tt
ascends-sorted (x ∷ xs) = ascends-insert x (sorted xs) (ascends-sorted xs)

-- in order
pub sorted_is_sorted : (xs : List (List Frame)) → AreSorted (sorted xs)
sorted_is_sorted xs = ascends_sorted (sorted xs) (ascends-sorted xs)

insert-starts : (x : List Frame) (xs : List (List Frame)) → Starts x xs → insert x xs ≡ x ∷ xs
insert-starts x [] h = refl
insert-starts x (y ∷ ys) h = here x y ys h

sorted-ascends : (xs : List (List Frame)) → Ascends xs → sorted xs ≡ xs
sorted-ascends [] h = refl
sorted-ascends (x ∷ xs) h = ap (insert x) (sorted-ascends xs h.1) ∙ insert-starts x xs h.0

-- nothing else is
pub only_sorted : (xs ys : List (List Frame)) → IsPermutation xs ys → AreSorted ys → ys ≡ sorted xs
only_sorted xs ys p h = sym (sorted-ascends ys (sorted_ascends ys h)) ∙ sorted-permutation xs ys p
