-- Elements of lists, and of those that have one more, or another at a place.
use Rattle.std.proofs.Common.{◌≡◌, ℕ, zero, suc, ◌⊎◌, refl, ap, inl, inr, List, [], ◌∷◌, ◌++◌, length, set}
use Rattle.std.specs.Prelude.{Some, slice_get}
use Rattle.std.proofs.lemmas.Option.{none-some, same_Some}
use Rattle.dim_rag.specs.Born.{In}

pub in_at : {X : Type 0} (xs : List X) (k : ℕ) (x : X) → slice_get xs k ≡ Some x → In x xs
in_at [] k x q = absurd (none-some x q)
in_at (y ∷ xs) zero x q = inl (same_Some y x q)
in_at (y ∷ xs) (suc k) x q = inr (in_at xs k x q)

pub get_push : {X : Type 0} (xs : List X) (y : X) (j : ℕ) (x : X) → slice_get (xs ++ y ∷ []) j ≡ Some x → (slice_get xs j ≡ Some x) ⊎ ((j ≡ length xs) × (y ≡ x))
get_push [] y zero x q = inr (refl, same_Some y x q)
get_push [] y (suc j) x q = absurd (none-some x q)
get_push (z ∷ xs) y zero x q = inl q
get_push (z ∷ xs) y (suc j) x q = elim (get_push xs y j x q) [ inl r ↦ inl r | inr r ↦ inr (ap suc r.0, r.1) ]

pub get_set_other : {X : Type 0} (xs : List X) (i j : ℕ) (y : X) → (j ≡ i → ⊥) → slice_get (set xs i y) j ≡ slice_get xs j
get_set_other [] i j y n = refl
get_set_other (x ∷ xs) zero zero y n = absurd (n refl)
get_set_other (x ∷ xs) zero (suc j) y n = refl
get_set_other (x ∷ xs) (suc i) zero y n = refl
get_set_other (x ∷ xs) (suc i) (suc j) y n = get_set_other xs i j y (λ e. n (ap suc e))

pub get_set_same : {X : Type 0} (xs : List X) (i : ℕ) (y z : X) → slice_get (set xs i y) i ≡ Some z → y ≡ z
get_set_same [] i y z q = absurd (none-some z q)
get_set_same (x ∷ xs) zero y z q = same_Some y z q
get_set_same (x ∷ xs) (suc i) y z q = get_set_same xs i y z q
