-- Sections, joined.
use Rattle.std.proofs.Common.{◌≡◌, inl, inr, ℕ, ◌==◌, Bool, true, false, if◌then◌else◌, List, [], ◌∷◌, ◌++◌, length, refl, sym, ap, ◌∙◌}
use Rattle.std.specs.List.{flat_map}
use Rattle.std.proofs.lemmas.Bool.{cases_Bool}
use Rattle.std.proofs.lemmas.List.{append_assoc, append-nil}
use Rattle.std.proofs.lemmas.List.Elements.{All-from_recursion}
use Rattle.dim_orders.specs.declared.hold.Hold.{Hold}
use Rattle.dim_orders.specs.declared.kept.Operation.{Operation}
use Rattle.dim_orders.specs.Holding.{held_after, held_from}
use Rattle.dim_orders.specs.Sections.{SectionsLaw, closing, found_from, is_found, last_stack, sections, sections_from}
use Rattle.dim_orders.proofs.Cutting.{Closed, all_closed, empty_is, ended_none, ended_some, lost_keeps, sections_ends, sections_goes_on, sections_lost}

abbrev flat : List (List Operation) → List Operation
flat ss = flat_map (λ (s : List Operation). s) ss

abbrev Joins : List Hold → List Operation → List Operation → Type 0
Joins held begun os = (stack : ℕ) × (flat (sections_from held begun os) ≡ begun ++ (found_from held os ++ closing stack (held_from held os)))

joined : (held : List Hold) (begun os : List Operation) → ((length held == 0) ≡ true → begun ≡ []) → Joins held begun os
joined held begun [] none =
    elim (cases_Bool (length held == 0)) [
      | inl e ↦ (0, ap flat (ended_none held begun e) ∙ sym (ap (λ (os : List Operation). os ++ closing 0 held) (none e) ∙ ap (closing 0) (empty_is held e)))
      | inr e ↦ (last_stack begun, ap flat (ended_some held begun e) ∙ append-nil (begun ++ closing (last_stack begun) held))
    ]
joined held begun (o ∷ os) none =
    elim (cases_Bool (is_found held o)) [
      | inl e ↦ elim (cases_Bool (length (held_after held o) == 0)) [
        | inl f ↦ (let r = joined [] [] os (λ _. refl) in
            let rest : List Operation = found_from [] os ++ closing r.0 (held_from [] os) in (
              r.0,
              ap flat (sections_ends held begun o os e f) ∙ ap (λ (xs : List Operation). (begun ++ o ∷ []) ++ xs) r.1
                  ∙ append_assoc begun (o ∷ []) rest
                  ∙ ap (λ (hs : List Hold). begun ++ ((o ∷ []) ++ (found_from hs os ++ closing r.0 (held_from hs os)))) (sym (empty_is (held_after held o) f))
                  ∙ ap (λ (b : Bool). begun ++ (((if b then o ∷ [] else []) ++ found_from (held_after held o) os) ++ closing r.0 (held_from (held_after held o) os))) (sym e),
            ))
        | inr f ↦ (let r = joined (held_after held o) (begun ++ o ∷ []) os (λ t. absurd (let both : true ≡ false = sym t ∙ f in cc)) in
            let rest : List Operation = found_from (held_after held o) os ++ closing r.0 (held_from (held_after held o) os) in (
              r.0,
              ap flat (sections_goes_on held begun o os e f) ∙ r.1
                  ∙ append_assoc begun (o ∷ []) rest
                  ∙ ap (λ (b : Bool). begun ++ (((if b then o ∷ [] else []) ++ found_from (held_after held o) os) ++ closing r.0 (held_from (held_after held o) os))) (sym e),
            ))
      ]
      | inr e ↦ (let r = joined held begun os none in (
        r.0,
        ap flat (sections_lost held begun o os e) ∙ r.1
            ∙ ap (λ (hs : List Hold). begun ++ (found_from hs os ++ closing r.0 (held_from hs os))) (sym (lost_keeps held o e))
            ∙ ap (λ (b : Bool). begun ++ (((if b then o ∷ [] else []) ++ found_from (held_after held o) os) ++ closing r.0 (held_from (held_after held o) os))) (sym e),
      ))
    ]

pub sections_joined : SectionsLaw
sections_joined os = (joined [] [] os (λ _. refl), All-from_recursion Closed (sections os) (all_closed os))
