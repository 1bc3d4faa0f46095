-- What a merged history has of the two.
use Rattle.std.proofs.Common.{◌≡◌, ◌+◌, ◌≤◌, ℕ, zero, suc, inl, inr, Bool, true, false, cond, ◌||◌, List, [], ◌∷◌, ◌++◌, map, Option, Some, refl, sym, ap, ap₂, ◌∙◌, subst, arith, append-nil}
use Rattle.std.specs.Prelude.{Contains, min, not, slice_get}
use Rattle.std.specs.Option.{option_map}
use Rattle.std.specs.List.{AllByRecursion, filter}
use Rattle.std.proofs.lemmas.Bool.{cases_Bool, or_parts, or_from, false_from_ne_true, false≢true}
use Rattle.std.proofs.lemmas.List.Elements.{Contains-append_right}
use Rattle.std.proofs.lemmas.List.Folds.{list_any-append}
use Rattle.dim_history_file.specs.Grammar.{AreDistinct, IsSignature}
use Rattle.dim_history_file.specs.Value.{NamedFrame, NamedSig, same_stacks, have_stacks}
use Rattle.dim_history_file.proofs.Comparing.{same_stacks-Decides}
use Rattle.dim_history_file.proofs.Spelled.{read_again}
use Rattle.dim_merge.specs.Laws.{AgainLaw, FirstLaw, HistoryLaw, ItselfLaw, KnownLaw, NoneLaw, OnceLaw, SecondLaw}
use Rattle.dim_merge.specs.Merging.{with_yields, unknown_to, merged}

abbrev has : List (List NamedFrame) → NamedSig → Bool
has stacks s = same_stacks s.stacks stacks

abbrev is_unknown : List NamedSig → NamedSig → Bool
is_unknown first s = not (have_stacks first s.stacks)

-- ---- which stacks there are
have_known : (others sigs : List NamedSig) (stacks : List (List NamedFrame)) → have_stacks (map (with_yields others) sigs) stacks ≡ have_stacks sigs stacks
have_known others [] stacks = refl
have_known others (s ∷ sigs) stacks = ap (λ b. same_stacks s.stacks stacks || b) (have_known others sigs stacks)

-- a signature that is left out has stacks that are known
left_out : (first : List NamedSig) (s : NamedSig) (stacks : List (List NamedFrame)) → have_stacks first stacks ≡ false → have_stacks first s.stacks ≡ true → same_stacks s.stacks stacks ≡ false
left_out first s stacks e h = false_from_ne_true (same_stacks s.stacks stacks) (λ t.
    false≢true (sym e ∙ ap (have_stacks first) (sym ((same_stacks-Decides s.stacks stacks).0 t)) ∙ h))

have_unknown : (first second : List NamedSig) (stacks : List (List NamedFrame)) → have_stacks first stacks ≡ false → have_stacks (unknown_to first second) stacks ≡ have_stacks second stacks
have_unknown first [] stacks e = refl
have_unknown first (s ∷ second) stacks e = elim (cases_Bool (have_stacks first s.stacks)) [
  | inl x ↦
      ap (λ b. have_stacks (cond (not b) (s ∷ unknown_to first second) (unknown_to first second)) stacks) x
      ∙ have_unknown first second stacks e
      ∙ ap (λ b. b || have_stacks second stacks) (sym (left_out first s stacks e x))
  | inr x ↦
      ap (λ b. have_stacks (cond (not b) (s ∷ unknown_to first second) (unknown_to first second)) stacks) x
      ∙ ap (λ b. same_stacks s.stacks stacks || b) (have_unknown first second stacks e)
]

pub known : KnownLaw
known first second stacks =
    list_any-append (has stacks) (map (with_yields second) first) (unknown_to first second)
    ∙ ap (λ b. b || have_stacks (unknown_to first second) stacks) (have_known second first stacks)
    ∙ go (have_stacks first stacks) refl
  where
    go : (b : Bool) → have_stacks first stacks ≡ b → (b || have_stacks (unknown_to first second) stacks) ≡ (b || have_stacks second stacks)
    go true e = refl
    go false e = have_unknown first second stacks e

-- ---- each of them once
distinct_known : (others sigs : List NamedSig) → AreDistinct sigs → AreDistinct (map (with_yields others) sigs)
distinct_known others [] h = tt
distinct_known others (s ∷ sigs) h = (have_known others sigs s.stacks ∙ h.0, distinct_known others sigs h.1)

have_one_more : (s : NamedSig) (ys : List NamedSig) (stacks : List (List NamedFrame)) (b : Bool) → same_stacks s.stacks stacks ≡ false → have_stacks ys stacks ≡ false → have_stacks (cond b (s ∷ ys) ys) stacks ≡ false
have_one_more s ys stacks true h k = or_from (same_stacks s.stacks stacks) (have_stacks ys stacks) h k
have_one_more s ys stacks false h k = k

have_fewer : (first second : List NamedSig) (stacks : List (List NamedFrame)) → have_stacks second stacks ≡ false → have_stacks (unknown_to first second) stacks ≡ false
have_fewer first [] stacks h = refl
have_fewer first (s ∷ second) stacks h =
    let p = or_parts (same_stacks s.stacks stacks) (have_stacks second stacks) h in
    have_one_more s (unknown_to first second) stacks (is_unknown first s) p.0 (have_fewer first second stacks p.1)

distinct_one_more : (s : NamedSig) (ys : List NamedSig) (b : Bool) → have_stacks ys s.stacks ≡ false → AreDistinct ys → AreDistinct (cond b (s ∷ ys) ys)
distinct_one_more s ys true h k = (h, k)
distinct_one_more s ys false h k = k

distinct_unknown : (first second : List NamedSig) → AreDistinct second → AreDistinct (unknown_to first second)
distinct_unknown first [] h = tt
distinct_unknown first (s ∷ second) h = distinct_one_more s (unknown_to first second) (is_unknown first s) (have_fewer first second s.stacks h.0) (distinct_unknown first second h.1)

-- a signature of the first has none of the stacks of those that only the second has
other_stacks : (first : List NamedSig) (s : NamedSig) (stacks : List (List NamedFrame)) → have_stacks first stacks ≡ true → have_stacks first s.stacks ≡ false → same_stacks s.stacks stacks ≡ false
other_stacks first s stacks h e = false_from_ne_true (same_stacks s.stacks stacks) (λ t.
    false≢true (sym e ∙ ap (have_stacks first) ((same_stacks-Decides s.stacks stacks).0 t) ∙ h))

none_unknown : (first second : List NamedSig) (stacks : List (List NamedFrame)) → have_stacks first stacks ≡ true → have_stacks (unknown_to first second) stacks ≡ false
none_unknown first [] stacks h = refl
none_unknown first (s ∷ second) stacks h = elim (cases_Bool (have_stacks first s.stacks)) [
  | inl x ↦
      ap (λ b. have_stacks (cond (not b) (s ∷ unknown_to first second) (unknown_to first second)) stacks) x
      ∙ none_unknown first second stacks h
  | inr x ↦
      ap (λ b. have_stacks (cond (not b) (s ∷ unknown_to first second) (unknown_to first second)) stacks) x
      ∙ or_from (same_stacks s.stacks stacks) (have_stacks (unknown_to first second) stacks) (other_stacks first s stacks h x) (none_unknown first second stacks h)
]

join_distinct : (a b : List NamedSig) → AreDistinct a → AreDistinct b → AllByRecursion (λ s. have_stacks b s.stacks ≡ false) a → AreDistinct (a ++ b)
join_distinct [] b p q r = q
join_distinct (s ∷ a) b p q r =
    (list_any-append (has s.stacks) a b ∙ or_from (have_stacks a s.stacks) (have_stacks b s.stacks) p.0 r.0, join_distinct a b p.1 q r.1)

-- the first's are members of the first
own : (s : NamedSig) (sigs : List NamedSig) → have_stacks (s ∷ sigs) s.stacks ≡ true
own s sigs = ap (λ b. b || have_stacks sigs s.stacks) ((same_stacks-Decides s.stacks s.stacks).1 refl)

or_true : (b : Bool) → (b || true) ≡ true
or_true true = refl
or_true false = refl

all_apart : (first sigs second : List NamedSig) → AllByRecursion (λ s. have_stacks first s.stacks ≡ true) sigs → AllByRecursion (λ s. have_stacks (unknown_to first second) s.stacks ≡ false) (map (with_yields second) sigs)
all_apart first [] second h = tt
all_apart first (s ∷ sigs) second h = (none_unknown first second s.stacks h.0, all_apart first sigs second h.1)

have_more : (x : NamedSig) (sigs ss : List NamedSig) → AllByRecursion (λ s. have_stacks sigs s.stacks ≡ true) ss → AllByRecursion (λ s. have_stacks (x ∷ sigs) s.stacks ≡ true) ss
have_more x sigs [] h = tt
have_more x sigs (s ∷ ss) h = (ap (λ b. same_stacks x.stacks s.stacks || b) h.0 ∙ or_true (same_stacks x.stacks s.stacks), have_more x sigs ss h.1)

all_own : (sigs : List NamedSig) → AllByRecursion (λ s. have_stacks sigs s.stacks ≡ true) sigs
all_own [] = tt
all_own (s ∷ sigs) = (own s sigs, have_more s sigs sigs (all_own sigs))

pub once : OnceLaw
once first second p q =
    join_distinct (map (with_yields second) first) (unknown_to first second) (distinct_known second first p) (distinct_unknown first second q)
    (all_apart first first second (all_own first))

-- ---- where they are
there : {X Y : Type 0} (f : X → Y) (a : List X) (b : List Y) (n : ℕ) (x : X) → slice_get a n ≡ Some x → slice_get (map f a ++ b) n ≡ Some (f x)
there f [] b n x e = cc
there f (y ∷ a) b zero x e = ap (option_map f) e
there f (y ∷ a) b (suc n) x e = there f a b n x e

pub first_there : FirstLaw
first_there first second n s e = there (with_yields second) first (unknown_to first second) n s e

contains_one_more : {X : Type 0} (b : Bool) (x s : X) (ys : List X) → Contains ys s → Contains (cond b (x ∷ ys) ys) s
contains_one_more true x s ys c = (suc c.0, omega (arith, c.1), c.2)
contains_one_more false x s ys c = c

some_is : {X : Type 0} (x y : X) → ◌≡◌ {A = Option X} (Some x) (Some y) → x ≡ y
some_is x y e = cc

kept_there : {X : Type 0} (q : X → Bool) (xs : List X) (n : ℕ) (s : X) → slice_get xs n ≡ Some s → q s ≡ true → Contains (filter q xs) s
kept_there q [] n s e t = cc
kept_there q (x ∷ xs) zero s e t =
    subst (λ b. Contains (cond b (x ∷ filter q xs) (filter q xs)) s) (sym (ap q (some_is x s e) ∙ t)) (0, omega arith, some_is x s e)
kept_there q (x ∷ xs) (suc n) s e t = contains_one_more (q x) x s (filter q xs) (kept_there q xs n s e t)

pub second_there : SecondLaw
second_there first second n s e h =
    Contains-append_right (map (with_yields second) first) (unknown_to first second) s (kept_there (is_unknown first) second n s e (ap not h))

-- ---- with none, and with itself
same_with_none : (s : NamedSig) → s.yields ≤ 4294967295 → with_yields [] s ≡ s
same_with_none s h = (let e : min (s.yields + 0) 4294967295 ≡ s.yields = omega (arith, h) in ap (λ n. record s { yields = n }) e)

all_with_none : (sigs : List NamedSig) → AllByRecursion IsSignature sigs → map (with_yields []) sigs ≡ sigs
all_with_none [] h = refl
all_with_none (s ∷ sigs) h = ap₂ (λ x xs. x ∷ xs) (same_with_none s h.0.yields) (all_with_none sigs h.1)

all_unknown : (sigs : List NamedSig) → unknown_to [] sigs ≡ sigs
all_unknown [] = refl
all_unknown (s ∷ sigs) = ap (λ xs. s ∷ xs) (all_unknown sigs)

pub none : NoneLaw
none sigs h = (append-nil (map (with_yields []) sigs) ∙ all_with_none sigs h.signatures, all_unknown sigs)

none_left : (first sigs : List NamedSig) → AllByRecursion (λ s. have_stacks first s.stacks ≡ true) sigs → unknown_to first sigs ≡ []
none_left first [] h = refl
none_left first (s ∷ sigs) h = ap (λ b. cond (not b) (s ∷ unknown_to first sigs) (unknown_to first sigs)) h.0 ∙ none_left first sigs h.1

stacks_known : (others sigs : List NamedSig) → map (λ (s : NamedSig). s.stacks) (map (with_yields others) sigs) ≡ map (λ (s : NamedSig). s.stacks) sigs
stacks_known others [] = refl
stacks_known others (s ∷ sigs) = ap (λ xs. s.stacks ∷ xs) (stacks_known others sigs)

pub itself : ItselfLaw
itself sigs =
    ap (λ (ss : List NamedSig). map (λ (s : NamedSig). s.stacks) (map (with_yields sigs) sigs ++ ss)) (none_left sigs sigs (all_own sigs))
    ∙ ap (map (λ (s : NamedSig). s.stacks)) (append-nil (map (with_yields sigs) sigs))
    ∙ stacks_known sigs sigs

-- ---- it has a text
one_known : (others : List NamedSig) (s : NamedSig) → IsSignature s → IsSignature (with_yields others s)
one_known others s h = record {
  low = h.low;
  high = h.high;
  some = h.some;
  few = h.few;
  stacks = h.stacks;
  sorted = h.sorted;
  yields = omega arith;
}

all_known : (others sigs : List NamedSig) (b : List NamedSig) → AllByRecursion IsSignature sigs → AllByRecursion IsSignature b → AllByRecursion IsSignature (map (with_yields others) sigs ++ b)
all_known others [] b h k = k
all_known others (s ∷ sigs) b h k = (one_known others s h.0, all_known others sigs b h.1 k)

sound_one_more : (b : Bool) (s : NamedSig) (ys : List NamedSig) → IsSignature s → AllByRecursion IsSignature ys → AllByRecursion IsSignature (cond b (s ∷ ys) ys)
sound_one_more true s ys h k = (h, k)
sound_one_more false s ys h k = k

all_left : (first second : List NamedSig) → AllByRecursion IsSignature second → AllByRecursion IsSignature (unknown_to first second)
all_left first [] h = tt
all_left first (s ∷ second) h = sound_one_more (is_unknown first s) s (unknown_to first second) h.0 (all_left first second h.1)

pub history : HistoryLaw
history first second h k few = record {
  few = few;
  signatures = all_known second first (unknown_to first second) h.signatures (all_left first second k.signatures);
  distinct = once first second h.distinct k.distinct;
}

pub again : AgainLaw
again first second h k few = read_again (merged first second) (history first second h k few)
