-- The edge with a birth.
use Rattle.std.proofs.Common.{◌≡◌, ℕ, ◌<◌, Bool, cond, eqb, refl, ap, sym, ◌∙◌, inl, inr, arith, List, [], ◌∷◌}
use Rattle.std.specs.Prelude.{Option, Some, None, IfSome}
use Rattle.std.specs.List.{find}
use Rattle.std.proofs.lemmas.Bool.{cases_Bool, eqb-true, eq-eqb}
use Rattle.dim_rag.specs.declared.entry.Edge.{Edge}
use Rattle.dim_rag.specs.declared.entry.Entry.{Entry}
use Rattle.dim_rag.specs.Born.{In, AreByBirth, IsEdge, all_edges, edge_born}
use Rattle.dim_rag.proofs.Born.{law}
use Rattle.dim_rag.proofs.ByBirth.{IsBorn}

-- whether an edge has a birth
abbrev has : ℕ → Edge → Bool
has p e = eqb e.birth p

-- one of some edges by birth is found by its birth
in_is_found : (es : List Edge) (e : Edge) → AreByBirth es → In e es → find (has e.birth) es ≡ Some e
in_is_found [] e a i = absurd i
in_is_found (x ∷ es) e a (inl q) = ap (λ t. cond t (Some x) (find (has e.birth) es)) (eq-eqb x.birth e.birth (ap (λ (y : Edge). y.birth) q)) ∙ ap (λ y. Some y) q
in_is_found (x ∷ es) e a (inr i) = elim (cases_Bool (has e.birth x)) [
  | inl b ↦ absurd (let lt : x.birth < e.birth = a.0 e i in let q : x.birth ≡ e.birth = eqb-true x.birth e.birth b in omega (arith, lt, q))
  | inr b ↦ ap (λ t. cond t (Some x) (find (has e.birth) es)) b ∙ in_is_found es e a.1 i
]

-- what is found is one of them, and has the birth
found_is_in : (p : ℕ) (es : List Edge) (e : Edge) → find (has p) es ≡ Some e → In e es × (e.birth ≡ p)
found_is_in p [] e q = absurd (cc)
found_is_in p (x ∷ es) e q = elim (cases_Bool (has p x)) [
  | inl b ↦
      let k : Some x ≡ Some e = sym (ap (λ t. cond t (Some x) (find (has p) es)) b) ∙ q in
      let same : x ≡ e = cc in
      (inl same, sym (ap (λ (y : Edge). y.birth) same) ∙ eqb-true x.birth p b)
  | inr b ↦ let w = found_is_in p es e (sym (ap (λ t. cond t (Some x) (find (has p) es)) b) ∙ q) in (inr w.0, w.1)
]

-- each edge is the one with its birth
pub edge_found : (h : List Entry) (e : Edge) → IsEdge h e → edge_born h e.birth ≡ Some e
edge_found h e k = in_is_found (all_edges h) e (law.by_birth h) (law.each h e k)

pub found_edge : (h : List Entry) (p : ℕ) (e : Edge) → edge_born h p ≡ Some e → IsBorn p h e
found_edge h p e q = let w = found_is_in p (all_edges h) e q in (law.only h e w.0, w.1)

-- what is such an edge, and is each, is the one with the birth
pub born_told : (h : List Entry) (p : ℕ) (o : Option Edge) → IfSome o (IsBorn p h) → ((e : Edge) → IsEdge h e → e.birth ≡ p → o ≡ Some e) → o ≡ edge_born h p
born_told h p (Some e) k f = sym (ap (edge_born h) (sym k.1) ∙ edge_found h e k.0)
born_told h p None k f = go (edge_born h p) refl
  where
    go : (x : Option Edge) → edge_born h p ≡ x → None ≡ x
    go None q = refl
    go (Some e) q = let w = found_edge h p e q in f e w.0 w.1
