-- The number of the signature with given stacks.
use Rattle.std.proofs.Common.{◌≡◌, ℕ, ◌<◌, inl, inr, ap, refl, sym, ◌∙◌, arith, true, ltb, List, length, get_or, Some, None}
use Rattle.std.specs.Bool.{Decides}
use Rattle.std.specs.List.{position_or_len}
use Rattle.std.specs.Cmp.Lexicographic.{pointwise}
use Rattle.std.specs.declared.cmp.Ordering.{Ordering}
use Rattle.std.specs.declared.cmp.Ordering.TheVariants.{Less, Equal, Greater}
use Rattle.std.proofs.lemmas.Bool.{cases_lt, cases_order, cases_Bool, cond-true, cond-false, false≢true, false_from_ne_true, lt-ltb, le-ltb, ltb-false}
use Rattle.std.proofs.lemmas.Cmp.{tied_itself}
use Rattle.std.proofs.lemmas.Grind.{common_steps}
use Rattle.std.proofs.lemmas.List.Quantifiers.{position-Some}
use Rattle.std.proofs.lemmas.Option.{slice_get-get_or, slice_get_within, get_or_from_slice_get}
use Rattle.std.proofs.lemmas.List.Sums.{position_or_len_is, fails_before_first}
use Rattle.std.proofs.lemmas.Slice.Eq.{slice_eq-Decides}
use Rattle.dim_stack.specs.declared.Frame.{Frame}
use Rattle.dim_stack.specs.Order.{frame_eq}
use Rattle.dim_signature.specs.Sig.{Sig}
use Rattle.dim_signature.specs.Catalogue.{FoundLaw, MissingLaw, OwnLaw, has_stacks, signature_number}
use Rattle.dim_signature.specs.Order.{BelongsAt, IsOrder, no_sig, stacks_at, stacks_cmp, stacks_of}
use Rattle.dim_signature.proofs.Ordered.{stacks_total}

frame_by : (x y : Frame) → x.func ≡ y.func → x.at ≡ y.at → x ≡ y
frame_by x y f a i = record { func = f i; at = a i }

frame_eq-Decides : (x y : Frame) → Decides (frame_eq x y) (x ≡ y)
frame_eq-Decides x y = (λ h. frame_by x y (grind (arith, common_steps)) (grind (arith, common_steps)), λ e. grind (arith, common_steps))

pub has_stacks-Decides : (stacks : List (List Frame)) (s : Sig) → Decides (has_stacks stacks s) (s.stacks ≡ stacks)
has_stacks-Decides stacks s = slice_eq-Decides (λ x y. slice_eq-Decides frame_eq-Decides x y (pointwise frame_eq x y) refl) s.stacks stacks (has_stacks stacks s) refl

module _ (sigs : List Sig) (stacks : List (List Frame)) where
  pub number_is : (n : ℕ) → n < length sigs → stacks_of sigs n ≡ stacks → ((k : ℕ) → k < n → stacks_of sigs k ≡ stacks → ⊥) → signature_number sigs stacks ≡ Some n
  number_is n h e others =
      let p = position_or_len_is (has_stacks stacks) sigs n no_sig (omega arith)
      (λ k l. false_from_ne_true (has_stacks stacks (get_or sigs k no_sig)) (λ t. others k l ((has_stacks-Decides stacks (get_or sigs k no_sig)).0 t)))
      (λ l. (has_stacks-Decides stacks (get_or sigs n no_sig)).1 e) in
      cond-true (ltb (position_or_len (has_stacks stacks) sigs) (length sigs)) _ None (lt-ltb _ _ (omega arith)) ∙ ap Some p

  pub number_is_none : ((k : ℕ) → k < length sigs → stacks_of sigs k ≡ stacks → ⊥) → signature_number sigs stacks ≡ None
  number_is_none none =
      let p = position_or_len_is (has_stacks stacks) sigs (length sigs) no_sig (omega arith)
      (λ k l. false_from_ne_true (has_stacks stacks (get_or sigs k no_sig)) (λ t. none k l ((has_stacks-Decides stacks (get_or sigs k no_sig)).0 t)))
      (λ l. absurd (omega arith)) in
      cond-false (ltb (position_or_len (has_stacks stacks) sigs) (length sigs)) (Some (position_or_len (has_stacks stacks) sigs)) None (le-ltb _ _ (omega arith))

  pub none_has : signature_number sigs stacks ≡ None → (k : ℕ) (d : Sig) → k < length sigs → (get_or sigs k d).stacks ≡ stacks → ⊥
  none_has e k d h same =
      let first = position_or_len (has_stacks stacks) sigs in
      let has : has_stacks stacks (get_or sigs k d) ≡ true = (has_stacks-Decides stacks (get_or sigs k d)).1 same in
      elim (cases_Bool (ltb first (length sigs))) [
        | inl x ↦ (let f : Some first ≡ None = sym (cond-true (ltb first (length sigs)) (Some first) None x) ∙ e in cc)
        | inr x ↦ absurd (false≢true (sym (fails_before_first (has_stacks stacks) sigs k d (omega (arith, ltb-false first (length sigs) x))) ∙ has))
      ]

pub found : FoundLaw
found sigs stacks n e =
    let t = position-Some (has_stacks stacks) sigs n no_sig e in
    (get_or sigs n no_sig, slice_get-get_or sigs n no_sig t.0, (has_stacks-Decides stacks (get_or sigs n no_sig)).0 t.1)

pub missing : MissingLaw
missing sigs stacks e = none_has sigs stacks e

pub own : OwnLaw
own sigs c n s e =
    let within : n < length sigs = slice_get_within sigs n s e in
    let same : get_or sigs n no_sig ≡ s = get_or_from_slice_get sigs n s no_sig e in
    number_is sigs s.stacks n within (ap (λ t. t.stacks) same) (λ k l h. c.distinct k n no_sig l within (h ∙ ap (λ t. t.stacks) (sym same)))

less_is_other : (o : Ordering) → o ≡ Less → o ≡ Equal → ⊥
less_is_other o e f = cc

greater_is_other : (o : Ordering) → o ≡ Greater → o ≡ Equal → ⊥
greater_is_other o e f = cc

module _ (sigs : List Sig) (order : List ℕ) (o : IsOrder sigs order) where
  -- two places of the order have different stacks
  apart : (j k : ℕ) → j < k → k < length order → stacks_at sigs order j ≡ stacks_at sigs order k → ⊥
  apart j k l h e = less_is_other _ (o.ascends j k l h) (ap (λ s. stacks_cmp s (stacks_at sigs order k)) e ∙ tied_itself stacks_total (stacks_at sigs order k))

  -- two numbers have different stacks
  pub only_number : (i j : ℕ) → i < length sigs → j < length sigs → stacks_of sigs i ≡ stacks_of sigs j → i ≡ j
  only_number i j hi hj e =
      let a = o.all i hi in
      let b = o.all j hj in
      let same : stacks_at sigs order a.0 ≡ stacks_at sigs order b.0 = ap (stacks_of sigs) a.2 ∙ e ∙ ap (stacks_of sigs) (sym b.2) in
      elim (cases_order a.0 b.0) [
        | inl x ↦ sym a.2 ∙ ap (λ k. get_or order k 0) x ∙ b.2
        | inr (inl x) ↦ absurd (apart a.0 b.0 x b.1 same)
        | inr (inr x) ↦ absurd (apart b.0 a.0 x a.1 (sym same))
      ]

  -- what the search answers where it finds the stacks
  pub number_found : (stacks : List (List Frame)) (n : ℕ) → n < length sigs → stacks_of sigs n ≡ stacks → signature_number sigs stacks ≡ Some n
  number_found stacks n h e = number_is sigs stacks n h e (λ k l same. (let f = only_number k n (omega arith) h (same ∙ sym e) in omega arith))

  -- and where they belong at a place
  pub belongs_new : (stacks : List (List Frame)) (place : ℕ) → BelongsAt sigs order stacks place → signature_number sigs stacks ≡ None
  belongs_new stacks place b = number_is_none sigs stacks (λ i h e.
      let a = o.all i h in
      let same : stacks_cmp (stacks_at sigs order a.0) stacks ≡ Equal = ap (λ s. stacks_cmp s stacks) (ap (stacks_of sigs) a.2 ∙ e) ∙ tied_itself stacks_total stacks in
      elim (cases_lt a.0 place) [
        | inl x ↦ less_is_other _ (b.below a.0 x) same
        | inr x ↦ greater_is_other _ (b.above a.0 x a.1) same
      ])
