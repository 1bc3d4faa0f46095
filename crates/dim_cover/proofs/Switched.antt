-- A cover counts where its signature is switched on.
use Rattle.std.proofs.Common.{◌≡◌, ℕ, Bool, true, ap, sym, ◌∙◌, inl, inr, List}
use Rattle.std.specs.Prelude.{Some, None, if◌then◌else◌}
use Rattle.std.proofs.lemmas.Bool.{cases_Bool}
use Rattle.dim_rag.specs.declared.entry.Edge.{Edge}
use Rattle.dim_signature.specs.Sig.{Sig}
use Rattle.dim_cover.specs.Named.{cover_births, cover_if_on}

module _ (es : List Edge) (p : ℕ) (s : Sig) where
  -- a signature with such a cover is on, and has it
  pub on_some : (b : List ℕ) → cover_if_on es p s ≡ Some b → (s.on ≡ true) × (cover_births es p s ≡ Some b)
  on_some b q = elim (cases_Bool s.on) [
    | inl on ↦ (on, sym (ap (λ (u : Bool). if u then cover_births es p s else None) on) ∙ q)
    | inr off ↦ absurd (let j : None ≡ Some b = sym (ap (λ (u : Bool). if u then cover_births es p s else None) off) ∙ q in cc)
  ]

  -- one that is on and has no such cover has no cover
  pub on_none : cover_if_on es p s ≡ None → s.on ≡ true → cover_births es p s ≡ None
  on_none q on = sym (ap (λ (u : Bool). if u then cover_births es p s else None) on) ∙ q
