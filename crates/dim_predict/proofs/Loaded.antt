-- What is told of the stacks of the loaded signatures before the search.
use Rattle.std.proofs.Common.{◌≡◌, ℕ, ◌+◌, ◌*◌, ◌<◌, ◌≤◌, true, false, ◌||◌, refl, ap, ap₂, sym, ◌∙◌, inl, inr, arith, List, [], ◌∷◌, ◌++◌, length, get_or, take}
use Rattle.std.specs.Prelude.{Bool, All, IfSome, map, Option, Some, None, slice_get}
use Rattle.std.specs.List.{AllByRecursion, list_any}
use Rattle.std.specs.BTreeMap.{BTreeMap, get}
use Rattle.std.specs.Cmp.{both_ways}
use Rattle.std.proofs.lemmas.Bool.{eqb-true, eq-eqb, false≢true}
use Rattle.std.proofs.lemmas.Option.{same_Some, get_or_from_slice_get, slice_get_within}
use Rattle.std.proofs.lemmas.List.{take_more}
use Rattle.std.proofs.lemmas.List.Folds.{list_any-append}
use Rattle.std.proofs.lemmas.List.Elements.{recursion_from_All}
use Rattle.std.proofs.lemmas.List.Sorted.{IsPermutation-refl}
use Rattle.dim_stack.specs.declared.Frame.{Frame}
use Rattle.dim_signature.specs.Sig.{Sig}
use Rattle.dim_signature.specs.Sorted.{AreSorted, stack_cmp, sorted}
use Rattle.dim_signature.proofs.Exports.{only_sorted}
use Rattle.dim_predict.specs.declared.key.Key.{Key}
use Rattle.dim_predict.specs.Candidates.{are_among, same_stacks}
use Rattle.dim_predict.specs.Numbered.{IsNumberedTo, is_at, pair_in, two}
use Rattle.dim_predict.specs.Pairs.{pair_slot, stack_at, stacks_at}
use Rattle.dim_predict.proofs.Repeats.{Stacks, same_stacks-Decides, swapped}
use Rattle.dim_predict.proofs.Searching.{ArePair, pair_slots, slot_pair, two_ways}

module _ (keys : List Key) (m : BTreeMap (List Frame) ℕ) (numbers : List ℕ) (few : length keys ≤ 4096) (n : IsNumberedTo keys (length keys) m numbers) where
  low : (s : List Frame) (k : ℕ) → get stack_cmp m s ≡ Some k → k < 4096
  low s k e = let b : k < length keys = (n.first s k e).0 in omega (arith, b, few)

  module _ (i j : ℕ) (d : Key) (first : i < length keys) (second : j < length keys) where
    abbrev a : List Frame
    a = stack_at keys i d

    abbrev b : List Frame
    b = stack_at keys j d

    abbrev x : ℕ
    x = get_or numbers i 0

    abbrev y : ℕ
    y = get_or numbers j 0

    -- stacks with one number are equal
    same_stack : (s t : List Frame) (k l : ℕ) → get stack_cmp m s ≡ Some k → get stack_cmp m t ≡ Some l → k ≡ l → s ≡ t
    same_stack s t k l p q e = sym ((n.first s k p).1 d) ∙ ap (λ z. stack_at keys z d) e ∙ (n.first t l q).1 d

    from_pair : (s t : List Frame) (k l : ℕ) → get stack_cmp m s ≡ Some k → get stack_cmp m t ≡ Some l → ArePair k l x y → sorted (s ∷ t ∷ []) ≡ stacks_at keys d i j
    from_pair s t k l p q (inl e) = ap₂ (λ u v. sorted (u ∷ v ∷ [])) (same_stack s a k x p (n.known i d first) e.0) (same_stack t b l y q (n.known j d second) e.1)
    from_pair s t k l p q (inr e) = ap₂ (λ u v. sorted (u ∷ v ∷ [])) (same_stack s b k y p (n.known j d second) e.0) (same_stack t a l x q (n.known i d first) e.1) ∙ swapped b a

    two_from : (s t : List Frame) (o p : Option ℕ) → get stack_cmp m s ≡ o → get stack_cmp m t ≡ p → is_at (pair_slot x y) (two o p) ≡ true → sorted (s ∷ t ∷ []) ≡ stacks_at keys d i j
    two_from s t (Some k) (Some l) e f h = from_pair s t k l e f (slot_pair k l x y (low s k e) (low t l f) (low a x (n.known i d first)) (low b y (n.known j d second)) (eqb-true (pair_slot k l) (pair_slot x y) h))
    two_from s t (Some k) None e f h = absurd (false≢true h)
    two_from s t None p e f h = absurd (false≢true h)

    -- stacks in order that have the numbers of a pair are those of the pair
    at_from : (s : Stacks) → AreSorted s → is_at (pair_slot x y) (pair_in m s) ≡ true → s ≡ stacks_at keys d i j
    at_from (s ∷ t ∷ []) up h = only_sorted (s ∷ t ∷ []) (s ∷ t ∷ []) (IsPermutation-refl (s ∷ t ∷ [])) up ∙ two_from s t (get stack_cmp m s) (get stack_cmp m t) refl refl h
    at_from [] up h = absurd (false≢true h)
    at_from (s ∷ []) up h = absurd (false≢true h)
    at_from (s ∷ t ∷ u ∷ us) up h = absurd (false≢true h)

    -- and the other way round
    in_order : is_at (pair_slot x y) (pair_in m (a ∷ b ∷ [])) ≡ true
    in_order = ap₂ (λ o p. is_at (pair_slot x y) (two o p)) (n.known i d first) (n.known j d second) ∙ eq-eqb (pair_slot x y) (pair_slot x y) refl

    turned : is_at (pair_slot x y) (pair_in m (b ∷ a ∷ [])) ≡ true
    turned = ap₂ (λ o p. is_at (pair_slot x y) (two o p)) (n.known j d second) (n.known i d first) ∙ eq-eqb (pair_slot y x) (pair_slot x y) (pair_slots y x x y (inr (refl, refl)))

    at_pair : is_at (pair_slot x y) (pair_in m (stacks_at keys d i j)) ≡ true
    at_pair = elim (two_ways a b) [
      | inl e ↦ ap (λ (s : Stacks). is_at (pair_slot x y) (pair_in m s)) e ∙ in_order
      | inr e ↦ ap (λ (s : Stacks). is_at (pair_slot x y) (pair_in m s)) e ∙ turned
    ]

    one_tells : (s : Stacks) → AreSorted s → is_at (pair_slot x y) (pair_in m s) ≡ same_stacks s (stacks_at keys d i j)
    one_tells s up = both_ways (is_at (pair_slot x y) (pair_in m s)) (same_stacks s (stacks_at keys d i j))
        (λ h. (same_stacks-Decides s (stacks_at keys d i j)).1 (at_from s up h))
        (λ h. ap (λ (z : Stacks). is_at (pair_slot x y) (pair_in m z)) ((same_stacks-Decides s (stacks_at keys d i j)).0 h) ∙ at_pair)

    tells : (sigs : List Sig) → AllByRecursion (λ s. AreSorted s.stacks) sigs → list_any (λ s. is_at (pair_slot x y) (pair_in m s.stacks)) sigs ≡ are_among (map (λ s. s.stacks) sigs) (stacks_at keys d i j)
    tells [] up = refl
    tells (s ∷ sigs) up = ap₂ (λ p q. p || q) (one_tells s.stacks up.0) (tells sigs up.1)

    pub are_told : (sigs : List Sig) → All (λ s. AreSorted s.stacks) sigs → list_any (λ s. is_at (pair_slot x y) (pair_in m s.stacks)) sigs ≡ are_among (map (λ s. s.stacks) sigs) (stacks_at keys d i j)
    are_told sigs up = tells sigs (recursion_from_All (λ s. AreSorted s.stacks) sigs up)

-- a pair that two stacks have: each has its number
pub pair_parts : (m : BTreeMap (List Frame) ℕ) (stacks : Stacks) (p : ℕ × ℕ) → pair_in m stacks ≡ Some p
    → (s : List Frame) × (t : List Frame) × (get stack_cmp m s ≡ Some p.0) × (get stack_cmp m t ≡ Some p.1)
pair_parts m (s ∷ t ∷ []) p e = go (get stack_cmp m s) (get stack_cmp m t) refl refl e
  where
    go : (o q : Option ℕ) → get stack_cmp m s ≡ o → get stack_cmp m t ≡ q → two o q ≡ Some p
        → (u : List Frame) × (v : List Frame) × (get stack_cmp m u ≡ Some p.0) × (get stack_cmp m v ≡ Some p.1)
    go (Some a) (Some b) f g h =
        let k : (a, b) ≡ p = same_Some (a, b) p h in
        (s, t, f ∙ ap (λ (z : ℕ × ℕ). Some z.0) k, g ∙ ap (λ (z : ℕ × ℕ). Some z.1) k)
    go (Some a) None f g h = absurd (cc)
    go None q f g h = absurd (cc)
pair_parts m [] p e = absurd (cc)
pair_parts m (s ∷ []) p e = absurd (cc)
pair_parts m (s ∷ t ∷ u ∷ us) p e = absurd (cc)

-- so both are below a bound of the numbers, and the pair has a place in the table
pub pair_within : (m : BTreeMap (List Frame) ℕ) (stacks : Stacks) (count size : ℕ) → count ≤ 4096 → size ≡ count * 4096
    → ((s : List Frame) (n : ℕ) → get stack_cmp m s ≡ Some n → n < count)
    → IfSome (pair_in m stacks) (λ p. (p.0 < 4096) × (p.1 < 4096) × (pair_slot p.0 p.1 < size))
pair_within m stacks count size few room low = go (pair_in m stacks) refl
  where
    go : (o : Option (ℕ × ℕ)) → pair_in m stacks ≡ o → IfSome o (λ p. (p.0 < 4096) × (p.1 < 4096) × (pair_slot p.0 p.1 < size))
    go None e = tt
    go (Some p) e =
        let r = pair_parts m stacks p e in
        let a : p.0 < count = low r.0 p.0 r.2 in
        let b : p.1 < count = low r.1 p.1 r.3 in
        (omega (arith, a, few), omega (arith, b, few), omega (arith, a, b, few, room))

-- one signature more
or_more : (a b c d e : Bool) → d ≡ (a || e) → e ≡ (b || c) → d ≡ ((b || a) || c)
or_more true true c d e p q = p
or_more true false c d e p q = p
or_more false true c d e p q = p ∙ q
or_more false false c d e p q = p ∙ q

pub seen_more : (f : Sig → Bool) (sigs : List Sig) (i : ℕ) (s : Sig) (before now old : Bool) → slice_get sigs i ≡ Some s → now ≡ (f s || before) → before ≡ (list_any f (take i sigs) || old)
    → now ≡ (list_any f (take (i + 1) sigs) || old)
seen_more f sigs i s before now old at n b =
    let more : take (i + 1) sigs ≡ take i sigs ++ s ∷ [] = take_more sigs i s (slice_get_within sigs i s at) ∙ ap (λ (x : Sig). take i sigs ++ x ∷ []) (get_or_from_slice_get sigs i s s at) in
    let any : list_any f (take (i + 1) sigs) ≡ (list_any f (take i sigs) || f s) = ap (list_any f) more ∙ list_any-append f (take i sigs) (s ∷ []) ∙ ap (λ z. list_any f (take i sigs) || z) (or_none (f s)) in
    or_more (f s) (list_any f (take i sigs)) old now before n b ∙ ap (λ z. z || old) (sym any)
  where
    or_none : (z : Bool) → (z || false) ≡ z
    or_none true = refl
    or_none false = refl
