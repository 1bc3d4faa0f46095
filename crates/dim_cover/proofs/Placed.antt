-- The place of the edge with a birth, from the youngest.
use Rattle.std.proofs.Common.{◌≡◌, ℕ, zero, suc, ◌<◌, cond, refl, ap, ◌∙◌, subst, inl, inr, arith, List, [], ◌∷◌, length, get_or, drop, drop-cons}
use Rattle.std.proofs.lemmas.Bool.{eq-eqb, ne_eqb}
use Rattle.dim_rag.specs.declared.entry.Edge.{Edge}
use Rattle.dim_rag.specs.Born.{In, AreByBirth}
use Rattle.dim_cover.specs.Index.{edge_in, edges_in, place_of}
use Rattle.dim_cover.proofs.Slots.{in_place}

module _ (edges : List Edge) (p : ℕ) where
  edge_among : (us : List ℕ) (u : ℕ) → In u us → In (edge_in edges u) (edges_in edges us)
  edge_among [] u i = i
  edge_among (v ∷ us) u (inl e) = inl (ap (edge_in edges) e)
  edge_among (v ∷ us) u (inr i) = inr (edge_among us u i)

  -- the place of an edge is that of its birth, which no other has
  pub place_is : (us : List ℕ) (i : ℕ) → AreByBirth (edges_in edges us) → i < length us → (edge_in edges (get_or us i 0)).birth ≡ p → place_of p (edges_in edges us) ≡ i
  place_is [] i a lt q = absurd (omega (arith, lt))
  place_is (u ∷ us) zero a lt q = ap (λ t. cond t 0 (suc (place_of p (edges_in edges us)))) (eq-eqb (edge_in edges u).birth p q)
  place_is (u ∷ us) (suc i) a lt q =
      let low : i < length us = omega (arith, lt) in
      let older : (edge_in edges u).birth < (edge_in edges (get_or us i 0)).birth = a.0 (edge_in edges (get_or us i 0)) (edge_among us (get_or us i 0) (in_place us i low)) in
      ap (λ t. cond t 0 (suc (place_of p (edges_in edges us)))) (ne_eqb (edge_in edges u).birth p (λ e. omega (arith, older, q, e)))
      ∙ ap (λ n. suc n) (place_is us i a.1 low q)

  -- where none has the birth
  pub place_none : (us : List ℕ) → ((u : ℕ) → In u us → (edge_in edges u).birth ≡ p → ⊥) → place_of p (edges_in edges us) ≡ length us
  place_none [] n = refl
  place_none (u ∷ us) n =
      ap (λ t. cond t 0 (suc (place_of p (edges_in edges us)))) (ne_eqb (edge_in edges u).birth p (n u (inl refl)))
      ∙ ap (λ m. suc m) (place_none us (λ v i. n v (inr i)))

  -- one slot more is passed over
  pub none_more : (us : List ℕ) (i left : ℕ) → suc i ≡ left → i < length us → ((edge_in edges (get_or us i 0)).birth ≡ p → ⊥) → ((u : ℕ) → In u (drop left us) → (edge_in edges u).birth ≡ p → ⊥)
      → (u : ℕ) → In u (drop i us) → (edge_in edges u).birth ≡ p → ⊥
  none_more us i left lower lt here later u m q = elim (subst (λ (xs : List ℕ). In u xs) (drop-cons us i 0 lt) m) [
    | inl e ↦ here (ap (λ x. (edge_in edges x).birth) e ∙ q)
    | inr k ↦ later u (subst (λ n. In u (drop n us)) lower k) q
  ]
