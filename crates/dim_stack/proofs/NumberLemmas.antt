-- The number of a name, and the order of stacks by the names of their functions.
use Rattle.std.proofs.Common.{◌≡◌, inl, inr, ℕ, ◌+◌, ◌<◌, ltb, true, false, ap, ap₂, refl, sym, ◌∙◌, arith, List, [], ◌∷◌, length, get_or, Some, None}
use Rattle.std.specs.Cmp.{nat_cmp_is}
use Rattle.std.specs.List.{position_or_len}
use Rattle.std.specs.List.Sorted.{IsNonDecreasingBy, IsPartitionPoint}
use Rattle.std.specs.Ordering.{is_lt, nat_cmp, ordering_index, ordering_then, ordering_reverse}
use Rattle.std.specs.Str.{bytes_eq}
use Rattle.std.specs.Cmp.Lexicographic.{slice_cmp}
use Rattle.std.specs.declared.cmp.Ordering.TheVariants.{Less, Equal, Greater}
use Rattle.std.proofs.lemmas.Bool.{cases_Bool, cases_lt, cases_order, cond-true, cond-false, false≢true, false_from_ne_true, le-ltb, lt-ltb, ltb-false}
use Rattle.std.proofs.lemmas.Cmp.{tied_itself}
use Rattle.std.proofs.lemmas.List.Elements.{All-head, All-tail}
use Rattle.std.proofs.lemmas.List.Quantifiers.{position-Some}
use Rattle.std.proofs.lemmas.List.Sorted.{searchable_from_sorted}
use Rattle.std.proofs.lemmas.List.Sums.{position_or_len_is, fails_before_first}
use Rattle.std.proofs.lemmas.Map.Keys.{Less-from_sorted}
use Rattle.std.proofs.lemmas.Option.{slice_get-get_or, slice_get_within, get_or_from_slice_get}
use Rattle.std.proofs.lemmas.Slice.Eq.{bytes_eq-Decides}
use Rattle.dim_stack.specs.declared.Frame.{Frame}
use Rattle.dim_stack.specs.Order.{frame_cmp}
use Rattle.dim_stack.specs.Names.{AreAscending, FoundLaw, IsNamedBy, MissingLaw, OrderLaw, OwnLaw, name_cmp, name_of, named_cmp, name_number}
use Rattle.dim_stack.proofs.TableLemmas.{equal_names, flip_names, name_total}

pub found : FoundLaw
found names name n e =
    let t = position-Some (bytes_eq name) names n [] e in
    slice_get-get_or names n [] t.0 ∙ ap Some (sym ((bytes_eq-Decides name (get_or names n [])).0 t.1))

pub missing : MissingLaw
missing names name e k d h same =
    let first = position_or_len (bytes_eq name) names in
    let is : bytes_eq name (get_or names k d) ≡ true = (bytes_eq-Decides name (get_or names k d)).1 (sym same) in
    elim (cases_Bool (ltb first (length names))) [
      | inl x ↦ (let f : Some first ≡ None = sym (cond-true (ltb first (length names)) (Some first) None x) ∙ e in cc)
      | inr x ↦ absurd (false≢true (sym (fails_before_first (bytes_eq name) names k d (omega (arith, ltb-false first (length names) x))) ∙ is))
    ]

-- of two names of a table, one comes first
places_apart : (names : List (List ℕ)) → AreAscending names → (i j : ℕ) → i < j → j < length names → get_or names i [] ≡ get_or names j [] → ⊥
places_apart names up i j l h e =
    let less : name_cmp (get_or names i []) (get_or names j []) ≡ Less = Less-from_sorted name_cmp names i j [] up l h in
    let same : name_cmp (get_or names i []) (get_or names j []) ≡ Equal = ap (name_cmp (get_or names i [])) (sym e) ∙ tied_itself name_total (get_or names i []) in
    let f : Less ≡ Equal = sym less ∙ same in
    cc

pub own : OwnLaw
own names up n name e =
    let within : n < length names = slice_get_within names n name e in
    let there : get_or names n [] ≡ name = get_or_from_slice_get names n name [] e in
    let first = position_or_len_is (bytes_eq name) names n [] (omega arith)
    (λ k l. false_from_ne_true (bytes_eq name (get_or names k [])) (λ t. places_apart names up k n l within (sym ((bytes_eq-Decides name (get_or names k [])).0 t) ∙ sym there)))
    (λ l. (bytes_eq-Decides name (get_or names n [])).1 (sym there)) in
    cond-true (ltb (position_or_len (bytes_eq name) names) (length names)) _ None (lt-ltb _ _ (omega arith)) ∙ ap Some first

-- what a search by order answers
pub found_at : (names : List (List ℕ)) → AreAscending names → (i : ℕ) (name : List ℕ) → i < length names → name_cmp (get_or names i []) name ≡ Equal → name_number names name ≡ Some i
found_at names up i name h e = own names up i name (slice_get-get_or names i [] h ∙ ap Some (equal_names (get_or names i []) name e))

pub missing_at : (names : List (List ℕ)) (i : ℕ) (name : List ℕ) → IsPartitionPoint (λ y. name_cmp y name ≡ Less) (λ y. name_cmp y name ≡ Greater) names i → name_number names name ≡ None
missing_at names i name p =
    let none : (k : ℕ) → k < length names → bytes_eq name (get_or names k []) ≡ false = λ k h. false_from_ne_true (bytes_eq name (get_or names k [])) (λ t.
    let same : name_cmp (get_or names k []) name ≡ Equal = ap (name_cmp (get_or names k [])) ((bytes_eq-Decides name (get_or names k [])).0 t) ∙ tied_itself name_total (get_or names k []) in
    elim (cases_lt k i) [
      | inl l ↦ (let f : Less ≡ Equal = sym (p.0 k [] (omega arith) l) ∙ same in cc)
      | inr l ↦ (let f : Greater ≡ Equal = sym (p.1 k [] l h) ∙ same in cc)
    ]) in
    let first = position_or_len_is (bytes_eq name) names (length names) [] (omega arith) none (λ l. absurd (omega arith)) in
    cond-false (ltb (position_or_len (bytes_eq name) names) (length names)) (Some (position_or_len (bytes_eq name) names)) None (le-ltb _ _ (omega arith))

pub searchable : (names : List (List ℕ)) → AreAscending names → (name : List ℕ) → IsNonDecreasingBy (λ y. ordering_index (name_cmp y name)) names
searchable names up name =
    searchable_from_sorted name_total (λ (y : List ℕ). y) names name
    (λ k d low high. ap is_lt (flip_names (get_or names k d) (get_or names (k + 1) d) Less (Less-from_sorted name_cmp names k (k + 1) d up (omega arith) high)))

module _ (names : List (List ℕ)) (up : AreAscending names) where
  -- numbers compare as their names
  numbers_cmp : (i j : ℕ) → i < length names → j < length names → nat_cmp i j ≡ name_cmp (name_of names i) (name_of names j)
  numbers_cmp i j hi hj =
      elim (cases_order i j) [
        | inl e ↦ sym (nat_cmp_is i j Equal e) ∙ sym (tied_itself name_total (name_of names i)) ∙ ap (λ k. name_cmp (name_of names i) (name_of names k)) e
        | inr (inl l) ↦ sym (nat_cmp_is i j Less l) ∙ sym (Less-from_sorted name_cmp names i j [] up l hj)
        | inr (inr l) ↦ sym (nat_cmp_is i j Greater l) ∙ ap ordering_reverse (sym (Less-from_sorted name_cmp names j i [] up l hi)) ∙ sym (name_total.antisymm (name_of names i) (name_of names j))
      ]

  stacks_cmp : (a b : List Frame) → IsNamedBy names a → IsNamedBy names b → slice_cmp frame_cmp a b ≡ slice_cmp (named_cmp names) a b
  stacks_cmp [] [] p q = refl
  stacks_cmp [] (g ∷ b) p q = refl
  stacks_cmp (f ∷ a) [] p q = refl
  stacks_cmp (f ∷ a) (g ∷ b) p q =
      ap₂ ordering_then
      (ap (λ o. ordering_then o (nat_cmp f.at g.at)) (numbers_cmp f.func g.func (All-head (λ h. h.func < length names) f a p) (All-head (λ h. h.func < length names) g b q)))
      (stacks_cmp a b (All-tail (λ h. h.func < length names) f a p) (All-tail (λ h. h.func < length names) g b q))

pub order : OrderLaw
order names up a b p q = stacks_cmp names up a b p q
