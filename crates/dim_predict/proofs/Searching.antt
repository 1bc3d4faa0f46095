-- What is found, pair by pair.
use Rattle.std.proofs.Common.{◌≡◌, ℕ, ◌<◌, ◌≤◌, true, false, ◌||◌, refl, ap, ap₂, sym, ◌∙◌, subst, inl, inr, ◌⊎◌, arith, List, [], ◌∷◌, ◌++◌, length, get_or, append-nil}
use Rattle.std.specs.Prelude.{Bool, cond, map}
use Rattle.std.specs.Ordering.{is_le}
use Rattle.std.proofs.lemmas.Bool.{cases_Bool, cases_eq, cases_lt, cond-true, cond-false, or_cases, or_left, or_right, false_from_ne_true, false≢true}
use Rattle.std.proofs.lemmas.List.{map_push, get_or_default}
use Rattle.std.proofs.lemmas.List.Elements.{All-push}
use Rattle.std.proofs.lemmas.List.Folds.{list_any-append}
use Rattle.dim_stack.specs.declared.Frame.{Frame}
use Rattle.dim_signature.specs.Sig.{Sig}
use Rattle.dim_signature.specs.Sorted.{stack_cmp, sorted}
use Rattle.dim_predict.specs.declared.key.Key.{Key}
use Rattle.dim_predict.specs.declared.places.Places.{Places}
use Rattle.dim_predict.specs.Candidates.{are_among, same_stacks, unknown}
use Rattle.dim_predict.specs.Pairs.{AreNumbers, AreWithin, pair_slot, has_come, stack_at, stacks_at, stacks_of_places, IsAdded, IsSearched}
use Rattle.dim_predict.proofs.Members.{any_in}
use Rattle.dim_predict.proofs.Repeats.{Stacks, IsKnown, learnt, learnt_keeps, learnt_has, l_old, l_new, u_old, u_new, unknown-append, swapped, same_stacks-Decides}

-- two stacks in order stand one way or the other
pub two_ways : (a b : List Frame) → (sorted (a ∷ b ∷ []) ≡ a ∷ b ∷ []) ⊎ (sorted (a ∷ b ∷ []) ≡ b ∷ a ∷ [])
two_ways a b = elim (cases_Bool (is_le (stack_cmp a b))) [
  | inl e ↦ inl (cond-true (is_le (stack_cmp a b)) (a ∷ b ∷ []) (b ∷ a ∷ []) e)
  | inr e ↦ inr (cond-false (is_le (stack_cmp a b)) (a ∷ b ∷ []) (b ∷ a ∷ []) e)
]

-- two things are two others, in one order or the other
abbrev pub ArePair : {X : Type 0} → X → X → X → X → Type 0
ArePair a b c d = ((a ≡ c) × (b ≡ d)) ⊎ ((a ≡ d) × (b ≡ c))

same_lists : (a b c d : List Frame) → a ∷ b ∷ [] ≡ c ∷ d ∷ [] → (a ≡ c) × (b ≡ d)
same_lists a b c d e = (cc, cc)

pub sorted_pair : (a b c d : List Frame) → sorted (a ∷ b ∷ []) ≡ sorted (c ∷ d ∷ []) → ArePair a b c d
sorted_pair a b c d e = go (two_ways a b) (two_ways c d)
  where
    go : (sorted (a ∷ b ∷ []) ≡ a ∷ b ∷ []) ⊎ (sorted (a ∷ b ∷ []) ≡ b ∷ a ∷ []) → (sorted (c ∷ d ∷ []) ≡ c ∷ d ∷ []) ⊎ (sorted (c ∷ d ∷ []) ≡ d ∷ c ∷ []) → ArePair a b c d
    go (inl p) (inl q) = inl (same_lists a b c d (sym p ∙ e ∙ q))
    go (inl p) (inr q) = inr (same_lists a b d c (sym p ∙ e ∙ q))
    go (inr p) (inl q) = let r = same_lists b a c d (sym p ∙ e ∙ q) in inr (r.1, r.0)
    go (inr p) (inr q) = let r = same_lists b a d c (sym p ∙ e ∙ q) in inl (r.1, r.0)

-- a place in the table is of one pair of numbers
pub slot_pair : (a b c d : ℕ) → a < 4096 → b < 4096 → c < 4096 → d < 4096 → pair_slot a b ≡ pair_slot c d → ArePair a b c d
slot_pair a b c d p q r s e = elim (cases_lt a b) [
  | inl x ↦ elim (cases_lt c d) [ inl y ↦ inl (omega arith, omega arith) | inr y ↦ inr (omega arith, omega arith) ]
  | inr x ↦ elim (cases_lt c d) [ inl y ↦ inr (omega arith, omega arith) | inr y ↦ inl (omega arith, omega arith) ]
]

pub pair_slots : (a b c d : ℕ) → ArePair a b c d → pair_slot a b ≡ pair_slot c d
pair_slots a b c d (inl e) = ap₂ pair_slot e.0 e.1
pair_slots a b c d (inr e) = omega (arith, e.0, e.1)

-- what is known once stacks have come was known or has come
learnt_only : (known ss : List Stacks) (t : Stacks) → IsKnown (learnt known ss) t → IsKnown known t ⊎ IsKnown ss t
learnt_only known [] t k = inl k
learnt_only known (s ∷ ss) t k = elim (cases_Bool (are_among known s)) [
  | inl e ↦ elim (learnt_only known ss t (subst (λ (z : List Stacks). IsKnown z t) (l_old known s ss e) k)) [
    | inl a ↦ inl a
    | inr b ↦ inr (or_right (same_stacks s t) (are_among ss t) b)
  ]
  | inr e ↦ elim (learnt_only (s ∷ known) ss t (subst (λ (z : List Stacks). IsKnown z t) (l_new known s ss e) k)) [
    | inl a ↦ elim (or_cases (same_stacks s t) (are_among known t) a) [
      | inl q ↦ inr (or_left (same_stacks s t) (are_among ss t) q)
      | inr q ↦ inl q
    ]
    | inr b ↦ inr (or_right (same_stacks s t) (are_among ss t) b)
  ]
]

come_learnt : (known ss : List Stacks) (t : Stacks) → IsKnown ss t → IsKnown (learnt known ss) t
come_learnt known ss t k =
    let r = any_in (λ x. same_stacks x t) ss k in
    subst (IsKnown (learnt known ss)) ((same_stacks-Decides r.0 t).0 r.2) (learnt_has known ss r.0 r.1)

-- one pair more is found exactly where its stacks were not known and have not come
more_known : (known come : List Stacks) (s : Stacks) → IsKnown known s ⊎ IsKnown come s → unknown known (come ++ s ∷ []) ≡ unknown known come
more_known known come s k =
    let e : IsKnown (learnt known come) s = elim k [ inl a ↦ learnt_keeps known come s a | inr b ↦ come_learnt known come s b ] in
    unknown-append known come (s ∷ []) ∙ ap (λ (us : List Stacks). unknown known come ++ us) (u_old (learnt known come) s [] e) ∙ append-nil (unknown known come)

more_new : (known come : List Stacks) (s : Stacks) → are_among known s ≡ false → are_among come s ≡ false → unknown known (come ++ s ∷ []) ≡ unknown known come ++ s ∷ []
more_new known come s a b =
    let e : are_among (learnt known come) s ≡ false = false_from_ne_true (are_among (learnt known come) s) (λ t. elim (learnt_only known come s t) [
      | inl x ↦ false≢true (sym a ∙ x)
      | inr y ↦ false≢true (sym b ∙ y)
    ]) in
    unknown-append known come (s ∷ []) ∙ ap (λ (us : List Stacks). unknown known come ++ us) (u_new (learnt known come) s [] e)

among_more : (come : List Stacks) (s t : Stacks) → are_among (come ++ s ∷ []) t ≡ (are_among come t || same_stacks s t)
among_more come s t = list_any-append (λ x. same_stacks x t) come (s ∷ []) ∙ ap (λ b. are_among come t || b) (or_no (same_stacks s t))
  where
    or_no : (b : Bool) → (b || false) ≡ b
    or_no true = refl
    or_no false = refl

left_false : (a b : Bool) → (a || b) ≡ false → a ≡ false
left_false true b e = e
left_false false b e = refl

right_false : (a b : Bool) → (a || b) ≡ false → b ≡ false
right_false true b e = absurd (false≢true (sym e))
right_false false b e = e

module _ (loaded : List Sig) (keys : List Key) (numbers : List ℕ) (few : length keys ≤ 4096) (n : AreNumbers keys (length keys) numbers) where
  abbrev known : List Stacks
  known = map (λ (x : Sig). x.stacks) loaded

  number_low : (i : ℕ) → i < length keys → get_or numbers i 0 < 4096
  number_low i l = let b : get_or numbers i 0 < length keys = n.below i l in omega (arith, b, few)

  -- the same stacks have the same numbers, and the other way round
  numbers_pair : (i j k l : ℕ) (d : Key) → i < length keys → j < length keys → k < length keys → l < length keys → ArePair (stack_at keys i d) (stack_at keys j d) (stack_at keys k d) (stack_at keys l d) → ArePair (get_or numbers i 0) (get_or numbers j 0) (get_or numbers k 0) (get_or numbers l 0)
  numbers_pair i j k l d p q r s (inl e) = inl ((n.same i k d p r).1 e.0, (n.same j l d q s).1 e.1)
  numbers_pair i j k l d p q r s (inr e) = inr ((n.same i l d p s).1 e.0, (n.same j k d q r).1 e.1)

  stacks_pair : (i j k l : ℕ) (d : Key) → i < length keys → j < length keys → k < length keys → l < length keys → ArePair (get_or numbers i 0) (get_or numbers j 0) (get_or numbers k 0) (get_or numbers l 0) → stacks_at keys d i j ≡ stacks_at keys d k l
  stacks_pair i j k l d p q r s (inl e) = ap₂ (λ a b. sorted (a ∷ b ∷ [])) ((n.same i k d p r).0 e.0) ((n.same j l d q s).0 e.1)
  stacks_pair i j k l d p q r s (inr e) = ap₂ (λ a b. sorted (a ∷ b ∷ [])) ((n.same i l d p s).0 e.0) ((n.same j k d q r).0 e.1) ∙ swapped (stack_at keys l d) (stack_at keys k d)

  module _ (come : List Stacks) (table new : List Bool) (found : List Places) (i j : ℕ) (d : Key) (first : i < length keys) (second : j < length keys)
      (s : IsSearched loaded keys numbers come table found) (added : IsAdded table new (get_or numbers i 0) (get_or numbers j 0)) where
    told : (k l : ℕ) (e : Key) → k < length keys → l < length keys → has_come new (get_or numbers k 0) (get_or numbers l 0) ≡ (are_among known (stacks_at keys e k l) || are_among (come ++ stacks_at keys d i j ∷ []) (stacks_at keys e k l))
    told k l e p q = elim (cases_eq (pair_slot (get_or numbers k 0) (get_or numbers l 0)) (pair_slot (get_or numbers i 0) (get_or numbers j 0))) [
      | inl same ↦
          let pair = slot_pair (get_or numbers k 0) (get_or numbers l 0) (get_or numbers i 0) (get_or numbers j 0) (number_low k p) (number_low l q) (number_low i first) (number_low j second) same in
          let one : stacks_at keys d i j ≡ stacks_at keys e k l = default i j d e first second ∙ sym (stacks_pair k l i j e p q first second pair) in
          ap (λ x. get_or new x false) same ∙ added.here
          ∙ sym (or_right (are_among known (stacks_at keys e k l)) (are_among (come ++ stacks_at keys d i j ∷ []) (stacks_at keys e k l))
          (among_more come (stacks_at keys d i j) (stacks_at keys e k l) ∙ or_right (are_among come (stacks_at keys e k l)) (same_stacks (stacks_at keys d i j) (stacks_at keys e k l)) ((same_stacks-Decides (stacks_at keys d i j) (stacks_at keys e k l)).1 one)))
      | inr other ↦
          let apart : same_stacks (stacks_at keys d i j) (stacks_at keys e k l) ≡ false = false_from_ne_true (same_stacks (stacks_at keys d i j) (stacks_at keys e k l)) (λ t.
          other (pair_slots (get_or numbers k 0) (get_or numbers l 0) (get_or numbers i 0) (get_or numbers j 0)
          (numbers_pair k l i j e p q first second (sorted_pair (stack_at keys k e) (stack_at keys l e) (stack_at keys i e) (stack_at keys j e)
          (sym ((same_stacks-Decides (stacks_at keys d i j) (stacks_at keys e k l)).0 t) ∙ default i j d e first second))))) in
          added.others (get_or numbers k 0) (get_or numbers l 0) (number_low k p) (number_low l q) other ∙ s.come_is k l e p q
          ∙ sym (ap (λ b. are_among known (stacks_at keys e k l) || b) (among_more come (stacks_at keys d i j) (stacks_at keys e k l) ∙ ap (λ b. are_among come (stacks_at keys e k l) || b) apart ∙ or_none (are_among come (stacks_at keys e k l))))
    ]
      where
        or_none : (b : Bool) → (b || false) ≡ b
        or_none true = refl
        or_none false = refl

        default : (i j : ℕ) (d e : Key) → i < length keys → j < length keys → stacks_at keys d i j ≡ stacks_at keys e i j
        default i j d e p q = ap₂ (λ (x y : Key). sorted (x.stack ∷ y.stack ∷ [])) (get_or_default keys i d e p) (get_or_default keys j d e q)

    -- the pair is known, or its stacks have come
    note_old : has_come table (get_or numbers i 0) (get_or numbers j 0) ≡ true → IsSearched loaded keys numbers (come ++ stacks_at keys d i j ∷ []) new found
    note_old k = record {
      size = added.size ∙ s.size;
      found_is = λ e. s.found_is e ∙ sym (more_known known come (stacks_at keys d i j) (or_cases (are_among known (stacks_at keys d i j)) (are_among come (stacks_at keys d i j)) (sym (s.come_is i j d first second) ∙ k)));
      within = s.within;
      come_is = told;
    }

    -- it is new
    note_new : has_come table (get_or numbers i 0) (get_or numbers j 0) ≡ false
        → (p : Places) → p.earlier ≡ i → p.later ≡ j → IsSearched loaded keys numbers (come ++ stacks_at keys d i j ∷ []) new (found ++ p ∷ [])
    note_new b p x y =
        let none : (are_among known (stacks_at keys d i j) || are_among come (stacks_at keys d i j)) ≡ false = sym (s.come_is i j d first second) ∙ b in
        record {
          size = added.size ∙ s.size;
          found_is = λ e.
              map_push (stacks_of_places keys e) found p
              ∙ ap₂ (λ (us : List Stacks) (t : Stacks). us ++ t ∷ []) (s.found_is e) (ap₂ (stacks_at keys e) x y ∙ ap₂ (λ (u v : Key). sorted (u.stack ∷ v.stack ∷ [])) (get_or_default keys i e d first) (get_or_default keys j e d second))
              ∙ sym (more_new known come (stacks_at keys d i j) (left_false (are_among known (stacks_at keys d i j)) (are_among come (stacks_at keys d i j)) none) (right_false (are_among known (stacks_at keys d i j)) (are_among come (stacks_at keys d i j)) none));
          within = All-push (AreWithin (length keys)) found p s.within (subst (λ k. k < length keys) (sym x) first, subst (λ k. k < length keys) (sym y) second);
          come_is = told;
        }

    -- what is found then
    pub noted : (now : List Places) → now ≡ cond (has_come table (get_or numbers i 0) (get_or numbers j 0)) found (found ++ record { earlier = i; later = j } ∷ []) → IsSearched loaded keys numbers (come ++ stacks_at keys d i j ∷ []) new now
    noted now e = elim (cases_Bool (has_come table (get_or numbers i 0) (get_or numbers j 0))) [
      | inl t ↦ subst (IsSearched loaded keys numbers (come ++ stacks_at keys d i j ∷ []) new)
          (sym (e ∙ cond-true (has_come table (get_or numbers i 0) (get_or numbers j 0)) found (found ++ record { earlier = i; later = j } ∷ []) t)) (note_old t)
      | inr t ↦ subst (IsSearched loaded keys numbers (come ++ stacks_at keys d i j ∷ []) new)
          (sym (e ∙ cond-false (has_come table (get_or numbers i 0) (get_or numbers j 0)) found (found ++ record { earlier = i; later = j } ∷ []) t)) (note_new t record { earlier = i; later = j } refl refl)
    ]
