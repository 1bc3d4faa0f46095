-- What is in a list, by cases.
use Rattle.std.proofs.Common.{◌≡◌, ◌⊎◌, inl, inr, ℕ, zero, suc, ◌+◌, ◌<◌, Bool, true, false, cond, ◌==◌, List, [], ◌∷◌, ◌++◌, length, get_or, refl, sym, ap, subst, ◌∙◌, arith, eqb-true}
use Rattle.std.specs.List.{Contains, filter, flat_map, count_by, AllByRecursion}
use Rattle.std.proofs.lemmas.Bool.{cases_Bool}

abbrev pub In : {X : Type 0} → X → List X → Type 0
In x [] = ⊥
In x (y ∷ ys) = (x ≡ y) ⊎ In x ys

in_at : {X : Type 0} (xs : List X) (x : X) (k : ℕ) → k < length xs → get_or xs k x ≡ x → In x xs
in_at [] x k lt e = absurd (omega arith)
in_at (y ∷ ys) x zero lt e = inl (sym e)
in_at (y ∷ ys) x (suc k) lt e = inr (in_at ys x k (omega arith) e)

pub in_from_contains : {X : Type 0} (xs : List X) (x : X) → Contains xs x → In x xs
in_from_contains xs x h = in_at xs x h.0 h.1 h.2

pub contains_from_in : {X : Type 0} (xs : List X) (x : X) → In x xs → Contains xs x
contains_from_in [] x h = absurd h
contains_from_in (y ∷ ys) x (inl e) = (0, omega arith, sym e)
contains_from_in (y ∷ ys) x (inr h) = let r = contains_from_in ys x h in (suc r.0, (let lt = r.1 in omega (arith, lt)), r.2)

pub in_left : {X : Type 0} (x : X) (xs ys : List X) → In x xs → In x (xs ++ ys)
in_left x [] ys h = absurd h
in_left x (z ∷ zs) ys (inl e) = inl e
in_left x (z ∷ zs) ys (inr h) = inr (in_left x zs ys h)

pub in_right : {X : Type 0} (x : X) (xs ys : List X) → In x ys → In x (xs ++ ys)
in_right x [] ys h = h
in_right x (z ∷ zs) ys h = inr (in_right x zs ys h)

pub in_either : {X : Type 0} (x : X) (xs ys : List X) → In x (xs ++ ys) → In x xs ⊎ In x ys
in_either x [] ys h = inr h
in_either x (z ∷ zs) ys (inl e) = inl (inl e)
in_either x (z ∷ zs) ys (inr h) = elim (in_either x zs ys h) [ inl a ↦ inl (inr a) | inr b ↦ inr b ]

-- what passes a test is in what the test keeps, and that in the list
pub in_filter : {X : Type 0} (p : X → Bool) (x : X) (xs : List X) → p x ≡ true → In x xs → In x (filter p xs)
in_filter p x [] t h = absurd h
in_filter p x (y ∷ ys) t h =
    elim (cases_Bool (p y)) [
      | inl q ↦ rw q (elim h [ inl e ↦ inl e | inr r ↦ inr (in_filter p x ys t r) ])
      | inr q ↦ rw q (elim h [ inl e ↦ absurd (let both : true ≡ false = sym t ∙ ap p e ∙ q in cc) | inr r ↦ in_filter p x ys t r ])
    ]

pub in_filtered : {X : Type 0} (p : X → Bool) (x : X) (xs : List X) → In x (filter p xs) → In x xs
in_filtered p x [] h = absurd h
in_filtered p x (y ∷ ys) h =
    elim (cases_Bool (p y)) [
      | inl q ↦ elim (subst (λ (b : Bool). In x (cond b (y ∷ filter p ys) (filter p ys))) q h) [ inl e ↦ inl e | inr r ↦ inr (in_filtered p x ys r) ]
      | inr q ↦ inr (in_filtered p x ys (subst (λ (b : Bool). In x (cond b (y ∷ filter p ys) (filter p ys))) q h))
    ]

-- what is in one of the lists is in all of them together
pub in_flat : {X Y : Type 0} (f : X → List Y) (y : Y) (x : X) (xs : List X) → In x xs → In y (f x) → In y (flat_map f xs)
in_flat f y x [] h i = absurd h
in_flat f y x (z ∷ zs) (inl e) i = in_left y (f z) (flat_map f zs) (subst (λ w. In y (f w)) e i)
in_flat f y x (z ∷ zs) (inr h) i = in_right y (f z) (flat_map f zs) (in_flat f y x zs h i)

pub from_flat : {X Y : Type 0} (f : X → List Y) (y : Y) (xs : List X) → In y (flat_map f xs) → (x : X) × In x xs × In y (f x)
from_flat f y [] h = absurd h
from_flat f y (z ∷ zs) h =
    elim (in_either y (f z) (flat_map f zs) h) [
      | inl i ↦ (z, inl refl, i)
      | inr r ↦ let more = from_flat f y zs r in (more.0, inr more.1, more.2)
    ]

-- where each has a fact, what is in the list has it
pub each_in : {X : Type 0} (P : X → Type 0) (x : X) (xs : List X) → AllByRecursion P xs → In x xs → P x
each_in P x [] all h = absurd h
each_in P x (y ∷ ys) all (inl e) = subst P (sym e) all.0
each_in P x (y ∷ ys) all (inr h) = each_in P x ys all.1 h

counted : (t x : ℕ) (xs : List ℕ) → (x == t) ≡ false → count_by (λ u. u == t) (x ∷ xs) ≡ count_by (λ u. u == t) xs
counted t x xs q = rw q refl

-- a number that is counted is in the list
pub in_from_count : (t : ℕ) (xs : List ℕ) → 0 < count_by (λ u. u == t) xs → In t xs
in_from_count t [] h = absurd (omega arith)
in_from_count t (x ∷ xs) h =
    elim (cases_Bool (x == t)) [
      | inl q ↦ inl (sym (eqb-true x t q))
      | inr q ↦ inr (in_from_count t xs (subst (λ (n : ℕ). 0 < n) (counted t x xs q) h))
    ]
