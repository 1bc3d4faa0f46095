-- Numbers of stacks, key by key.
use Rattle.std.proofs.Common.{◌≡◌, ℕ, ◌+◌, ◌<◌, ◌≤◌, refl, ap, sym, ◌∙◌, subst, inl, inr, arith, List, [], ◌∷◌, ◌++◌, length, get_or}
use Rattle.std.specs.Prelude.{Option, Some, None}
use Rattle.std.specs.Bool.{Decides}
use Rattle.std.specs.BTreeMap.{BTreeMap, get}
use Rattle.std.specs.Ordering.{is_eq}
use Rattle.std.proofs.lemmas.Bool.{cases_Bool, cases_eq, cond-true, cond-false}
use Rattle.std.proofs.lemmas.Bool.Decides.{Decides-at}
use Rattle.std.proofs.lemmas.Option.{same_Some}
use Rattle.std.proofs.lemmas.List.{get_or_append_left, get_or_push, length_push, get_or_default}
use Rattle.dim_stack.specs.declared.Frame.{Frame}
use Rattle.dim_stack.specs.Order.{stack_eq-cmp}
use Rattle.dim_signature.specs.Sorted.{stack_cmp}
use Rattle.dim_predict.specs.declared.key.Key.{Key}
use Rattle.dim_predict.specs.Numbered.{IsNumbered, IsNumberedTo, or_here}
use Rattle.dim_predict.specs.Pairs.{AreNumbers, stack_at}
use Rattle.dim_predict.proofs.Repeats.{same_stack-Decides}

pub cmp_Decides : (a b : List Frame) → Decides (is_eq (stack_cmp a b)) (a ≡ b)
cmp_Decides a b = Decides-at (is_eq (stack_cmp a b)) _ (sym (stack_eq-cmp a b)) (same_stack-Decides a b)

-- a key at a place
pub some_key : (keys : List Key) (i : ℕ) → i < length keys → Key
some_key [] i l = absurd (omega (arith, l))
some_key (k ∷ keys) i l = k

pub are_numbers : (keys : List Key) (firsts : BTreeMap (List Frame) ℕ) (numbers : List ℕ) (n : ℕ) → n ≤ length keys → IsNumberedTo keys n firsts numbers → AreNumbers keys n numbers
are_numbers keys firsts numbers n le a = record {
  size = a.size;
  below = λ i l. let d = some_key keys i (omega (arith, l, le)) in (a.first (stack_at keys i d) (get_or numbers i 0) (a.known i d l)).0;
  same = λ i j d l m. (
    (λ e. sym ((a.first (stack_at keys i d) (get_or numbers i 0) (a.known i d l)).1 d) ∙ ap (λ k. stack_at keys k d) e ∙ (a.first (stack_at keys j d) (get_or numbers j 0) (a.known j d m)).1 d),
    (λ e. same_Some (get_or numbers i 0) (get_or numbers j 0) (sym (a.known i d l) ∙ ap (get stack_cmp firsts) e ∙ a.known j d m)),
  );
}

-- one key more
pub number_step : (keys : List Key) (i : ℕ) (old new : BTreeMap (List Frame) ℕ) (numbers : List ℕ) (key : Key) (n : ℕ) → i < length keys → key ≡ get_or keys i key → IsNumberedTo keys i old numbers → IsNumbered old new key.stack i n
    → IsNumberedTo keys (i + 1) new (numbers ++ n ∷ [])
number_step keys i old new numbers key n l e a s = record {
  size = length_push numbers n ∙ ap (λ k. k + 1) a.size;
  first = λ q k f. elim (cases_Bool (is_eq (stack_cmp key.stack q))) [
    | inl t ↦
        let same : key.stack ≡ q = (cmp_Decides key.stack q).0 t in
        let number : n ≡ k = same_Some n k (sym (s.others q ∙ cond-true (is_eq (stack_cmp key.stack q)) (Some n) (get stack_cmp old q) t) ∙ f) in
        let r = here (get stack_cmp old key.stack) refl in
        (subst (λ z. z < i + 1) number r.0, λ d. ap (λ z. stack_at keys z d) (sym number) ∙ r.1 d ∙ same)
    | inr t ↦
        let r = a.first q k (sym (s.others q ∙ cond-false (is_eq (stack_cmp key.stack q)) (Some n) (get stack_cmp old q) t) ∙ f) in
        ((let b : k < i = r.0 in omega (arith, b)), r.1)
  ];
  known = λ j d b. elim (cases_eq j i) [
    | inl q ↦
        let same : stack_at keys j d ≡ key.stack = ap (λ z. stack_at keys z d) q ∙ mine d in
        ap (get stack_cmp new) same ∙ s.others key.stack ∙ cond-true (is_eq (stack_cmp key.stack key.stack)) (Some n) (get stack_cmp old key.stack) ((cmp_Decides key.stack key.stack).1 refl)
        ∙ ap (λ (z : ℕ). Some z) (sym (get_or_push numbers n 0 j (a.size ∙ sym q)))
    | inr ne ↦
        let low : j < i = omega (arith, b, ne) in
        let number : get_or (numbers ++ n ∷ []) j 0 ≡ get_or numbers j 0 = get_or_append_left numbers (n ∷ []) 0 j (let z = a.size in omega (arith, low, z)) in
        s.others (stack_at keys j d) ∙ elim (cases_Bool (is_eq (stack_cmp key.stack (stack_at keys j d)))) [
          | inl t ↦
              let same : key.stack ≡ stack_at keys j d = (cmp_Decides key.stack (stack_at keys j d)).0 t in
              cond-true (is_eq (stack_cmp key.stack (stack_at keys j d))) (Some n) (get stack_cmp old (stack_at keys j d)) t
              ∙ ap (λ (z : ℕ). Some z) (s.value ∙ ap (or_here i) (ap (get stack_cmp old) same ∙ a.known j d low) ∙ sym number)
          | inr t ↦
              cond-false (is_eq (stack_cmp key.stack (stack_at keys j d))) (Some n) (get stack_cmp old (stack_at keys j d)) t
              ∙ a.known j d low ∙ ap (λ (z : ℕ). Some z) (sym number)
        ]
  ];
}
  where
    mine : (d : Key) → stack_at keys i d ≡ key.stack
    mine d = ap (λ (k : Key). k.stack) (get_or_default keys i d key l ∙ sym e)

    here : (o : Option ℕ) → get stack_cmp old key.stack ≡ o → (n < i + 1) × ((d : Key) → stack_at keys n d ≡ key.stack)
    here None q =
        let is : n ≡ i = s.value ∙ ap (or_here i) q in
        ((omega (arith, is)), λ d. ap (λ z. stack_at keys z d) is ∙ mine d)
    here (Some m) q =
        let is : n ≡ m = s.value ∙ ap (or_here i) q in
        let r = a.first key.stack m q in
        ((let b : m < i = r.0 in omega (arith, b, is)), λ d. ap (λ z. stack_at keys z d) is ∙ r.1 d)

-- the number that a map had stays
pub numbered_old : (m : BTreeMap (List Frame) ℕ) (stack : List Frame) (here n : ℕ) → get stack_cmp m stack ≡ Some n → IsNumbered m m stack here n
numbered_old m stack here n e = record {
  value = sym (ap (or_here here) e);
  others = λ q. elim (cases_Bool (is_eq (stack_cmp stack q))) [
    | inl t ↦ ap (get stack_cmp m) (sym ((cmp_Decides stack q).0 t)) ∙ e ∙ sym (cond-true (is_eq (stack_cmp stack q)) (Some n) (get stack_cmp m q) t)
    | inr t ↦ sym (cond-false (is_eq (stack_cmp stack q)) (Some n) (get stack_cmp m q) t)
  ];
}
