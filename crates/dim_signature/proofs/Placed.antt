-- Where stacks belong in the order, and the order with one number more.
use Rattle.std.proofs.Common.{◌≡◌, ℕ, ◌+◌, ◌-◌, ◌<◌, ◌≤◌, inl, inr, ap, ap₂, refl, sym, ◌∙◌, arith, List, [], ◌∷◌, ◌++◌, length, get_or}
use Rattle.std.specs.List.{insert}
use Rattle.std.specs.Ordering.{ordering_reverse}
use Rattle.std.specs.declared.cmp.Ordering.TheVariants.{Less, Greater}
use Rattle.std.proofs.lemmas.Bool.{cases_lt, cases_order}
use Rattle.std.proofs.lemmas.List.{get_or_default, get_or_append_left, get_or_push, length_push}
use Rattle.std.proofs.lemmas.List.Edits.{length-insert, get_or-insert_below, get_or-insert_at, get_or-insert_above}
use Rattle.dim_stack.specs.declared.Frame.{Frame}
use Rattle.dim_signature.specs.Sig.{Sig}
use Rattle.dim_signature.specs.Order.{BelongsAt, IsOrder, no_sig, stacks_at, stacks_cmp, stacks_of}
use Rattle.dim_signature.proofs.Ordered.{stacks_total}

pub flip_greater : (a b : List (List Frame)) → stacks_cmp a b ≡ Greater → stacks_cmp b a ≡ Less
flip_greater a b e = stacks_total.antisymm b a ∙ ap ordering_reverse e

flip_less : (a b : List (List Frame)) → stacks_cmp a b ≡ Less → stacks_cmp b a ≡ Greater
flip_less a b e = stacks_total.antisymm b a ∙ ap ordering_reverse e

-- the stacks of a signature that was read at a place
pub stacks_read : (sigs : List Sig) (order : List ℕ) → IsOrder sigs order → (m : ℕ) (s : Sig) → m < length order → s ≡ get_or sigs (get_or order m 0) s → s.stacks ≡ stacks_at sigs order m
stacks_read sigs order o m s h e = ap (λ t. t.stacks) (e ∙ get_or_default sigs (get_or order m 0) s no_sig (o.within m h))

module _ (sigs : List Sig) (order : List ℕ) (o : IsOrder sigs order) (stacks : List (List Frame)) (m : ℕ) (h : m < length order) where
  -- all places up to one with lesser stacks have lesser stacks
  pub below_more : stacks_cmp (stacks_at sigs order m) stacks ≡ Less → (k : ℕ) → k < m + 1 → stacks_cmp (stacks_at sigs order k) stacks ≡ Less
  below_more e k l =
      elim (cases_lt k m) [
        | inl x ↦ stacks_total.trans (stacks_at sigs order k) (stacks_at sigs order m) stacks (o.ascends k m x h) e
        | inr x ↦ (let same : k ≡ m = omega arith in ap (λ n. stacks_cmp (stacks_at sigs order n) stacks) same ∙ e)
      ]

  -- all places from one with greater stacks on have greater stacks
  pub above_more : stacks_cmp (stacks_at sigs order m) stacks ≡ Greater → (k : ℕ) → m ≤ k → k < length order → stacks_cmp (stacks_at sigs order k) stacks ≡ Greater
  above_more e k l n =
      elim (cases_lt m k) [
        | inl x ↦ flip_less stacks (stacks_at sigs order k)
            (stacks_total.trans stacks (stacks_at sigs order m) (stacks_at sigs order k) (flip_greater (stacks_at sigs order m) stacks e) (o.ascends m k x n))
        | inr x ↦ (let same : k ≡ m = omega arith in ap (λ i. stacks_cmp (stacks_at sigs order i) stacks) same ∙ e)
      ]

module _ (sigs : List Sig) (order : List ℕ) (o : IsOrder sigs order) (s : Sig) (place : ℕ) (b : BelongsAt sigs order s.stacks place) where
  abbrev more_sigs : List Sig
  more_sigs = sigs ++ s ∷ []

  abbrev more : List ℕ
  more = insert order place (length sigs)

  sizes : (length more_sigs ≡ length sigs + 1) × (length more ≡ length order + 1)
  sizes = (length_push sigs s, length-insert order place (length sigs) b.within)

  old_stacks : (i : ℕ) → i < length sigs → stacks_of more_sigs i ≡ stacks_of sigs i
  old_stacks i h = ap (λ t. t.stacks) (get_or_append_left sigs (s ∷ []) no_sig i h)

  -- what stands at each place of the new order
  number_below : (k : ℕ) → k < place → get_or more k 0 ≡ get_or order k 0
  number_below k h = get_or-insert_below order place (length sigs) 0 k h b.within

  number_at : get_or more place 0 ≡ length sigs
  number_at = get_or-insert_at order place (length sigs) 0 b.within

  number_above : (k : ℕ) → place ≤ k → get_or more (k + 1) 0 ≡ get_or order k 0
  number_above k h = get_or-insert_above order place (length sigs) 0 k h b.within

  at_below : (k : ℕ) → k < place → stacks_at more_sigs more k ≡ stacks_at sigs order k
  at_below k h = ap (stacks_of more_sigs) (number_below k h) ∙ old_stacks (get_or order k 0) (o.within k (omega (arith, b.within)))

  at_place : stacks_at more_sigs more place ≡ s.stacks
  at_place = ap (stacks_of more_sigs) number_at ∙ ap (λ t. t.stacks) (get_or_push sigs s no_sig (length sigs) refl)

  at_above : (k : ℕ) → place ≤ k → k < length order → stacks_at more_sigs more (k + 1) ≡ stacks_at sigs order k
  at_above k h l = ap (stacks_of more_sigs) (number_above k h) ∙ old_stacks (get_or order k 0) (o.within k l)

  -- a place above the new one
  above_at : (k : ℕ) → place < k → k < length more → (stacks_at more_sigs more k ≡ stacks_at sigs order (k - 1)) × (place ≤ k - 1) × (k - 1 < length order)
  above_at k h l =
      let e : k - 1 + 1 ≡ k = omega arith in
      let p : place ≤ k - 1 = omega arith in
      let q : k - 1 < length order = omega (arith, sizes.1) in
      (ap (stacks_at more_sigs more) (sym e) ∙ at_above (k - 1) p q, p, q)

  less : {a a' b' c : List (List Frame)} → a ≡ a' → b' ≡ c → stacks_cmp a' c ≡ Less → stacks_cmp a b' ≡ Less
  less e f h = ap₂ stacks_cmp e f ∙ h

  ascends : (j k : ℕ) → j < k → k < length more → stacks_cmp (stacks_at more_sigs more j) (stacks_at more_sigs more k) ≡ Less
  ascends j k l h =
      elim (cases_order k place) [
        | inl x ↦ less (at_below j (omega arith)) (ap (stacks_at more_sigs more) x ∙ at_place) (b.below j (omega arith))
        | inr (inl x) ↦ less (at_below j (omega arith)) (at_below k x) (o.ascends j k l (omega (arith, b.within)))
        | inr (inr x) ↦ (let u = above_at k x h in
            elim (cases_order j place) [
              | inl y ↦ less (ap (stacks_at more_sigs more) y ∙ at_place) u.0 (flip_greater (stacks_at sigs order (k - 1)) s.stacks (b.above (k - 1) u.1 u.2))
              | inr (inl y) ↦ less (at_below j y) u.0 (o.ascends j (k - 1) (omega arith) u.2)
              | inr (inr y) ↦ (let v = above_at j y (omega arith) in less v.0 u.0 (o.ascends (j - 1) (k - 1) (omega arith) u.2))
            ])
      ]

  within : (k : ℕ) → k < length more → get_or more k 0 < length more_sigs
  within k h =
      elim (cases_order k place) [
        | inl x ↦ (let e = ap (λ n. get_or more n 0) x in omega (arith, number_at, sizes.0))
        | inr (inl x) ↦ (let e = o.within k (omega (arith, b.within)) in omega (arith, number_below k x, sizes.0))
        | inr (inr x) ↦ (let same : k - 1 + 1 ≡ k = omega arith in
            let f = ap (λ n. get_or more n 0) same in
            let e = o.within (k - 1) (omega (arith, sizes.1)) in
            omega (arith, number_above (k - 1) (omega arith), sizes.0))
      ]

  all : (i : ℕ) → i < length more_sigs → (k : ℕ) × (k < length more) × (get_or more k 0 ≡ i)
  all i h =
      elim (cases_lt i (length sigs)) [
        | inl x ↦ (let a = o.all i x in
            elim (cases_lt a.0 place) [
              | inl y ↦ (a.0, omega (arith, a.1, sizes.1), number_below a.0 y ∙ a.2)
              | inr y ↦ (a.0 + 1, omega (arith, a.1, sizes.1), number_above a.0 y ∙ a.2)
            ])
        | inr x ↦ (place, omega (arith, b.within, sizes.1), number_at ∙ (let e : length sigs ≡ i = omega (arith, sizes.0) in e))
      ]

  pub order-insert : IsOrder (sigs ++ s ∷ []) (insert order place (length sigs))
  order-insert = record {
    size = sizes.1 ∙ ap (λ n. n + 1) o.size ∙ sym sizes.0;
    within = within;
    ascends = ascends;
    all = all;
  }
