-- Stacks by numbers and by names: they compare alike.
use Rattle.std.proofs.Common.{◌≡◌, ◌+◌, ℕ, inl, inr, Bool, true, false, ltb, ◌&&◌, ◌||◌, List, [], ◌∷◌, ◌++◌, length, map, get_or, Some, None, All, refl, sym, ap, ap₂, ◌∙◌, subst, arith, zero, suc}
use Rattle.std.specs.Prelude.{nat_eq, position}
use Rattle.std.specs.Bool.{Decides}
use Rattle.std.specs.List.{list_any, position_or_len}
use Rattle.std.specs.Ordering.{nat_cmp, is_eq, is_lt, ordering_then}
use Rattle.std.specs.Str.{bytes_eq}
use Rattle.std.specs.Cmp.Lexicographic.{slice_cmp, pointwise}
use Rattle.std.specs.declared.cmp.Ordering.{Ordering}
use Rattle.std.specs.declared.cmp.Ordering.TheVariants.{Less, Equal, Greater}
use Rattle.std.proofs.lemmas.Bool.{cases_Bool, and_parts, or_parts, or_from, eqb-true, eq-eqb, false_from_ne_true, false≢true, cond-true, ltb-false}
use Rattle.std.proofs.lemmas.Bool.Decides.{nat_tests}
use Rattle.std.proofs.lemmas.List.Elements.{All-head, All-tail}
use Rattle.std.proofs.lemmas.List.Quantifiers.{position-Some}
use Rattle.std.proofs.lemmas.List.Folds.{list_any_at, list_any_none}
use Rattle.std.proofs.lemmas.List.Sums.{fails_before_first}
use Rattle.std.proofs.lemmas.Map.Text.{is_eq-slice_cmp}
use Rattle.std.proofs.lemmas.Slice.Eq.{slice_eq-Decides, bytes_eq-Decides}
use Rattle.dim_stack.specs.declared.Frame.{Frame}
use Rattle.dim_stack.specs.Names.{AreAscending, IsNamedBy, named_cmp}
use Rattle.dim_stack.specs.Order.{frame_eq, frame_cmp}
use Rattle.dim_stack.proofs.Exports.{order}
use Rattle.dim_signature.specs.Sig.{Sig}
use Rattle.dim_signature.specs.Sorted.{AreSorted, stack_cmp}
use Rattle.dim_signature.specs.Catalogue.{has_stacks}
use Rattle.dim_history_file.specs.Value.{NamedFrame, NamedSig, named_stack, named, AreNamed, frame_order, stack_order, same_frame, same_stacks, have_stacks}
use Rattle.dim_history_file.specs.Grammar.{AreInOrder, AreDistinct}

-- ---- equal, and not told apart by the order
is_eq-then : (o p : Ordering) → is_eq (ordering_then o p) ≡ (is_eq o && is_eq p)
is_eq-then Less p = refl
is_eq-then Equal p = refl
is_eq-then Greater p = refl

nat_eq-cmp : (a b : ℕ) → nat_eq a b ≡ is_eq (nat_cmp a b)
nat_eq-cmp a b = grind (arith, nat_tests)

ties : {X : Type 0} (E : X → X → Bool) (R : X → X → Ordering) → ((x y : X) → E x y ≡ is_eq (R x y)) → (xs ys : List X) → pointwise E xs ys ≡ is_eq (slice_cmp R xs ys)
ties E R h [] [] = refl
ties E R h [] (y ∷ ys) = refl
ties E R h (x ∷ xs) [] = refl
ties E R h (x ∷ xs) (y ∷ ys) = ap₂ (λ a b. a && b) (h x y) (ties E R h xs ys) ∙ sym (is_eq-then (R x y) (slice_cmp R xs ys))

frame_eq-cmp : (x y : Frame) → frame_eq x y ≡ is_eq (frame_cmp x y)
frame_eq-cmp x y = ap₂ (λ a b. a && b) (nat_eq-cmp x.func y.func) (nat_eq-cmp x.at y.at) ∙ sym (is_eq-then (nat_cmp x.func y.func) (nat_cmp x.at y.at))

same_frame-order : (x y : NamedFrame) → same_frame x y ≡ is_eq (frame_order x y)
same_frame-order x y =
    ap₂ (λ a b. a && b) (sym (is_eq-slice_cmp x.name y.name)) (nat_eq-cmp x.at y.at) ∙ sym (is_eq-then (slice_cmp nat_cmp x.name y.name) (nat_cmp x.at y.at))

-- ---- the same by numbers and by names
by_names : (names : List (List ℕ)) (a b : List Frame) → slice_cmp (named_cmp names) a b ≡ stack_order (named_stack names a) (named_stack names b)
by_names names [] [] = refl
by_names names [] (g ∷ b) = refl
by_names names (f ∷ a) [] = refl
by_names names (f ∷ a) (g ∷ b) = ap (ordering_then (named_cmp names f g)) (by_names names a b)

pub order_named : (names : List (List ℕ)) → AreAscending names → (a b : List Frame) → IsNamedBy names a → IsNamedBy names b
    → stack_cmp a b ≡ stack_order (named_stack names a) (named_stack names b)
order_named names up a b p q = order names up a b p q ∙ by_names names a b

stack_named : (names : List (List ℕ)) → AreAscending names → (a b : List Frame) → IsNamedBy names a → IsNamedBy names b
    → pointwise frame_eq a b ≡ pointwise same_frame (named_stack names a) (named_stack names b)
stack_named names up a b p q =
    ties frame_eq frame_cmp frame_eq-cmp a b
    ∙ ap is_eq (order_named names up a b p q)
    ∙ sym (ties same_frame frame_order same_frame-order (named_stack names a) (named_stack names b))

stacks_named : (names : List (List ℕ)) → AreAscending names → (xs ys : List (List Frame)) → All (IsNamedBy names) xs → All (IsNamedBy names) ys
    → pointwise (pointwise frame_eq) xs ys ≡ same_stacks (map (named_stack names) xs) (map (named_stack names) ys)
stacks_named names up [] [] p q = refl
stacks_named names up [] (y ∷ ys) p q = refl
stacks_named names up (x ∷ xs) [] p q = refl
stacks_named names up (x ∷ xs) (y ∷ ys) p q =
    ap₂ (λ a b. a && b)
    (stack_named names up x y (All-head (IsNamedBy names) x xs p) (All-head (IsNamedBy names) y ys q))
    (stacks_named names up xs ys (All-tail (IsNamedBy names) x xs p) (All-tail (IsNamedBy names) y ys q))

abbrev IsNamedSig : List (List ℕ) → Sig → Type 0
IsNamedSig names s = All (IsNamedBy names) s.stacks

pub have_named : (names : List (List ℕ)) → AreAscending names → (sigs : List Sig) (stacks : List (List Frame)) → AreNamed names sigs → All (IsNamedBy names) stacks
    → list_any (has_stacks stacks) sigs ≡ have_stacks (named names sigs) (map (named_stack names) stacks)
have_named names up [] stacks p q = refl
have_named names up (s ∷ sigs) stacks p q =
    ap₂ (λ a b. a || b)
    (stacks_named names up s.stacks stacks (All-head (IsNamedSig names) s sigs p) q)
    (have_named names up sigs stacks (All-tail (IsNamedSig names) s sigs p) q)

-- ---- in order
tail_sorted : (x : List Frame) (xs : List (List Frame)) → AreSorted (x ∷ xs) → AreSorted xs
tail_sorted x xs h = λ k d low high.
    let e : suc k + 1 ≡ suc (k + 1) = omega arith in
    subst (λ n. is_lt (stack_cmp (get_or (x ∷ xs) n d) (get_or xs k d)) ≡ false) e (h (suc k) d (omega arith) (omega arith))

more_sorted : (x y : List Frame) (ys : List (List Frame)) → is_lt (stack_cmp y x) ≡ false → AreSorted (y ∷ ys) → AreSorted (x ∷ y ∷ ys)
more_sorted x y ys e h zero d low high = e
more_sorted x y ys e h (suc k) d low high =
    let n : suc (k + 1) ≡ suc k + 1 = omega arith in
    subst (λ m. is_lt (stack_cmp (get_or (x ∷ y ∷ ys) m d) (get_or (y ∷ ys) k d)) ≡ false) n (h k d (omega arith) (omega arith))

module _ (names : List (List ℕ)) (up : AreAscending names) where
  pub in_order_named : (xs : List (List Frame)) → All (IsNamedBy names) xs → AreSorted xs → AreInOrder (map (named_stack names) xs)
  in_order_named [] p h = tt
  in_order_named (x ∷ []) p h = tt
  in_order_named (x ∷ y ∷ ys) p h =
      let rest = All-tail (IsNamedBy names) x (y ∷ ys) p in
      let first : is_lt (stack_cmp y x) ≡ false = h 0 [] (omega arith) (omega arith) in (
        sym (ap is_lt (order_named names up y x (All-head (IsNamedBy names) y ys rest) (All-head (IsNamedBy names) x (y ∷ ys) p))) ∙ first,
        in_order_named (y ∷ ys) rest (tail_sorted x (y ∷ ys) h),
      )

  pub sorted_named : (xs : List (List Frame)) → All (IsNamedBy names) xs → AreInOrder (map (named_stack names) xs) → AreSorted xs
  sorted_named [] p h = λ k d low high. absurd (omega arith)
  sorted_named (x ∷ []) p h = λ k d low high. absurd (omega arith)
  sorted_named (x ∷ y ∷ ys) p h =
      let rest = All-tail (IsNamedBy names) x (y ∷ ys) p in
      more_sorted x y ys
      (ap is_lt (order_named names up y x (All-head (IsNamedBy names) y ys rest) (All-head (IsNamedBy names) x (y ∷ ys) p)) ∙ h.0)
      (sorted_named (y ∷ ys) rest h.1)

-- ---- equal named stacks
frame_by : (x y : NamedFrame) → x.name ≡ y.name → x.at ≡ y.at → x ≡ y
frame_by x y f a i = record { name = f i; at = a i }

same_frame-Decides : (x y : NamedFrame) → Decides (same_frame x y) (x ≡ y)
same_frame-Decides x y = (
  λ h. let p = and_parts (bytes_eq x.name y.name) (nat_eq x.at y.at) h in frame_by x y ((bytes_eq-Decides x.name y.name).0 p.0) (eqb-true x.at y.at p.1),
  λ e. subst (λ z. same_frame x z ≡ true) e (rw ((bytes_eq-Decides x.name x.name).1 refl, eq-eqb x.at x.at refl) refl),
)

pub same_stacks-Decides : (xs ys : List (List NamedFrame)) → Decides (same_stacks xs ys) (xs ≡ ys)
same_stacks-Decides xs ys = slice_eq-Decides (λ x y. slice_eq-Decides same_frame-Decides x y (pointwise same_frame x y) refl) xs ys (same_stacks xs ys) refl

pub turned : (xs ys : List (List NamedFrame)) → same_stacks xs ys ≡ false → same_stacks ys xs ≡ false
turned xs ys e = false_from_ne_true (same_stacks ys xs) (λ t. false≢true (sym e ∙ (same_stacks-Decides xs ys).1 (sym ((same_stacks-Decides ys xs).0 t))))

-- ---- distinct signatures, with one more
have-push : (sigs : List NamedSig) (y : NamedSig) (stacks : List (List NamedFrame)) → have_stacks sigs stacks ≡ false → same_stacks y.stacks stacks ≡ false → have_stacks (sigs ++ y ∷ []) stacks ≡ false
have-push [] y stacks h e = or_from _ false e refl
have-push (s ∷ sigs) y stacks h e =
    let p = or_parts (same_stacks s.stacks stacks) (have_stacks sigs stacks) h in
    or_from _ _ p.0 (have-push sigs y stacks p.1 e)

pub distinct-push : (sigs : List NamedSig) (y : NamedSig) → AreDistinct sigs → have_stacks sigs y.stacks ≡ false → AreDistinct (sigs ++ y ∷ [])
distinct-push [] y h e = (refl, tt)
distinct-push (s ∷ sigs) y h e =
    let p = or_parts (same_stacks s.stacks y.stacks) (have_stacks sigs y.stacks) e in
    (have-push sigs y s.stacks h.0 (turned s.stacks y.stacks p.0), distinct-push sigs y h.1 p.1)

have-middle : (front : List NamedSig) (s : NamedSig) (rest : List NamedSig) (stacks : List (List NamedFrame)) → have_stacks (front ++ s ∷ rest) stacks ≡ false → same_stacks s.stacks stacks ≡ false
have-middle [] s rest stacks h = (or_parts (same_stacks s.stacks stacks) (have_stacks rest stacks) h).0
have-middle (x ∷ front) s rest stacks h = have-middle front s rest stacks (or_parts (same_stacks x.stacks stacks) (have_stacks (front ++ s ∷ rest) stacks) h).1

-- a signature among distinct ones has other stacks than those before it
pub distinct-front : (front : List NamedSig) (s : NamedSig) (rest : List NamedSig) → AreDistinct (front ++ s ∷ rest) → have_stacks front s.stacks ≡ false
distinct-front [] s rest h = refl
distinct-front (x ∷ front) s rest h = or_from _ _ (turned s.stacks x.stacks (have-middle front s rest x.stacks h.0)) (distinct-front front s rest h.1)

-- ---- whether one of a list passes, and where
pub any_at : {X : Type 0} (p : X → Bool) (xs : List X) (n : ℕ) (d : X) → position p xs ≡ Some n → list_any p xs ≡ true
any_at p xs n d e = let t = position-Some p xs n d e in list_any_at p xs n d t.0 t.1

pub any_none : {X : Type 0} (p : X → Bool) (xs : List X) → position p xs ≡ None → list_any p xs ≡ false
any_none p xs e =
    let first = position_or_len p xs in
    list_any_none p xs (λ k d h.
    elim (cases_Bool (ltb first (length xs))) [
      | inl x ↦ (let f : Some first ≡ None = sym (cond-true (ltb first (length xs)) (Some first) None x) ∙ e in cc)
      | inr x ↦ fails_before_first p xs k d (omega (arith, h, ltb-false first (length xs) x))
    ])
