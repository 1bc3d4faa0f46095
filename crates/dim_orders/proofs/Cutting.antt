-- Sections have the nestings of their thread, and each ends with nothing held.
use Rattle.std.proofs.Common.{◌≡◌, ◌⊎◌, inl, inr, ℕ, ◌==◌, Bool, true, false, List, [], ◌∷◌, ◌++◌, length, refl, sym, ap, subst, ◌∙◌, eqb-true}
use Rattle.std.specs.List.{flat_map, AllByRecursion}
use Rattle.std.proofs.lemmas.Bool.{cases_Bool}
use Rattle.std.proofs.lemmas.List.{append-nil, nil_from_length}
use Rattle.dim_orders.specs.declared.hold.Hold.{Hold}
use Rattle.dim_orders.specs.declared.kept.Deed.{Deed}
use Rattle.dim_orders.specs.declared.kept.Deed.TheVariants as deed
use Rattle.dim_orders.specs.declared.kept.Operation.{Operation}
use Rattle.dim_orders.specs.Holding.{held_by, held_after, held_from}
use Rattle.dim_orders.specs.Nestings.{Nesting, asked, is_lock, nestings_from, nestings}
use Rattle.dim_orders.specs.Sections.{closing, ended, found_by, is_found, last_stack, sections_from, sections}
use Rattle.dim_orders.proofs.HoldLemmas.{let_go_none}
use Rattle.dim_orders.proofs.Members.{In, in_left, in_right, in_either}
use Rattle.dim_orders.proofs.Replays.{closing_closes, held_from-append, nestings_from-append}

-- an unlock of what is not held does nothing
lost_by : (d : Deed) (lock stack : ℕ) (held : List Hold) → found_by d lock held ≡ false → (is_lock d ≡ false) × (held_by d lock stack held ≡ held)
lost_by deed.Lock lock stack held e = cc
lost_by deed.Try lock stack held e = cc
lost_by deed.Unlock lock stack held e = (refl, let_go_none lock held e)

pub lost_keeps : (held : List Hold) (o : Operation) → is_found held o ≡ false → held_after held o ≡ held
lost_keeps held o e = (lost_by o.deed o.lock o.stack held e).1

pub lost_asks : (held : List Hold) (o : Operation) → is_found held o ≡ false → asked held o ≡ []
lost_asks held o e = rw (lost_by o.deed o.lock o.stack held e).0 refl

-- the sections of one operation more
pub sections_lost : (held : List Hold) (begun : List Operation) (o : Operation) (os : List Operation) → is_found held o ≡ false → sections_from held begun (o ∷ os) ≡ sections_from held begun os
sections_lost held begun o os e = rw e refl

pub sections_ends : (held : List Hold) (begun : List Operation) (o : Operation) (os : List Operation) → is_found held o ≡ true → (length (held_after held o) == 0) ≡ true → sections_from held begun (o ∷ os) ≡ (begun ++ o ∷ []) ∷ sections_from [] [] os
sections_ends held begun o os e f = rw (e, f) refl

pub sections_goes_on : (held : List Hold) (begun : List Operation) (o : Operation) (os : List Operation) → is_found held o ≡ true → (length (held_after held o) == 0) ≡ false → sections_from held begun (o ∷ os) ≡ sections_from (held_after held o) (begun ++ o ∷ []) os
sections_goes_on held begun o os e f = rw (e, f) refl

pub ended_none : (held : List Hold) (begun : List Operation) → (length held == 0) ≡ true → ended held begun ≡ []
ended_none held begun e = rw e refl

pub ended_some : (held : List Hold) (begun : List Operation) → (length held == 0) ≡ false → ended held begun ≡ (begun ++ closing (last_stack begun) held) ∷ []
ended_some held begun e = rw e refl

-- what stands for the section that is begun
pub record IsBegun (held : List Hold) (begun : List Operation) : Type 0 where
  pub is_held : held_from [] begun ≡ held
  pub none : (length held == 0) ≡ true → begun ≡ []

begun_more : (held : List Hold) (begun : List Operation) (o : Operation) → IsBegun held begun → held_from [] (begun ++ o ∷ []) ≡ held_after held o
begun_more held begun o b = held_from-append [] begun (o ∷ []) ∙ ap (λ (hs : List Hold). held_after hs o) b.is_held

nestings_more : (held : List Hold) (begun : List Operation) (o : Operation) → IsBegun held begun → nestings (begun ++ o ∷ []) ≡ nestings begun ++ asked held o
nestings_more held begun o b =
    nestings_from-append [] begun (o ∷ [])
    ∙ ap (λ (hs : List Hold). nestings begun ++ (asked hs o ++ [])) b.is_held
    ∙ ap (λ (ns : List Nesting). nestings begun ++ ns) (append-nil (asked held o))

nothing_begun : IsBegun [] []
nothing_begun = record { is_held = refl; none = λ _. refl }

absurd_bool : (b : Bool) {A : Type 0} → b ≡ true → b ≡ false → A
absurd_bool b t f = absurd (let e : true ≡ false = sym t ∙ f in cc)

goes_on : (held : List Hold) (begun : List Operation) (o : Operation) → IsBegun held begun → (length (held_after held o) == 0) ≡ false → IsBegun (held_after held o) (begun ++ o ∷ [])
goes_on held begun o b f = record { is_held = begun_more held begun o b; none = λ t. absurd_bool (length (held_after held o) == 0) t f }

pub empty_is : (hs : List Hold) → (length hs == 0) ≡ true → hs ≡ []
empty_is hs e = nil_from_length hs (eqb-true (length hs) 0 e)

moved : (held : List Hold) (begun : List Operation) (o : Operation) (os : List Operation) (n : Nesting) → IsBegun held begun → In n (nestings begun) ⊎ In n (nestings_from held (o ∷ os)) → In n (nestings (begun ++ o ∷ [])) ⊎ In n (nestings_from (held_after held o) os)
moved held begun o os n b (inl h) = inl (subst (In n) (sym (nestings_more held begun o b)) (in_left n (nestings begun) (asked held o) h))
moved held begun o os n b (inr h) =
    elim (in_either n (asked held o) (nestings_from (held_after held o) os) h) [
      | inl a ↦ inl (subst (In n) (sym (nestings_more held begun o b)) (in_right n (nestings begun) (asked held o) a))
      | inr r ↦ inr r
    ]

lost : (held : List Hold) (begun : List Operation) (o : Operation) (os : List Operation) (n : Nesting) → is_found held o ≡ false → In n (nestings begun) ⊎ In n (nestings_from held (o ∷ os)) → In n (nestings begun) ⊎ In n (nestings_from held os)
lost held begun o os n e (inl h) = inl h
lost held begun o os n e (inr h) = inr (subst (λ (hs : List Hold). In n (nestings_from hs os)) (lost_keeps held o e)
    (subst (λ (ns : List Nesting). In n (ns ++ nestings_from (held_after held o) os)) (lost_asks held o e) h))

-- each nesting of the section that is begun and of what follows is one of a section
pub sections_have : (held : List Hold) (begun : List Operation) (os : List Operation) (n : Nesting) → IsBegun held begun → In n (nestings begun) ⊎ In n (nestings_from held os) → In n (flat_map nestings (sections_from held begun os))
sections_have held begun [] n b (inr h) = absurd h
sections_have held begun [] n b (inl h) =
    elim (cases_Bool (length held == 0)) [
      | inl e ↦ absurd (subst (λ (os : List Operation). In n (nestings os)) (b.none e) h)
      | inr e ↦ subst (λ (ss : List (List Operation)). In n (flat_map nestings ss)) (sym (ended_some held begun e))
          (in_left n (nestings (begun ++ closing (last_stack begun) held)) []
          (subst (In n) (sym (nestings_from-append [] begun (closing (last_stack begun) held)))
          (in_left n (nestings begun) (nestings_from (held_from [] begun) (closing (last_stack begun) held)) h)))
    ]
sections_have held begun (o ∷ os) n b h =
    elim (cases_Bool (is_found held o)) [
      | inl e ↦ elim (cases_Bool (length (held_after held o) == 0)) [
        | inl f ↦ subst (λ (ss : List (List Operation)). In n (flat_map nestings ss)) (sym (sections_ends held begun o os e f))
            (elim (moved held begun o os n b h) [
              | inl i ↦ in_left n (nestings (begun ++ o ∷ [])) (flat_map nestings (sections_from [] [] os)) i
              | inr r ↦ in_right n (nestings (begun ++ o ∷ [])) (flat_map nestings (sections_from [] [] os))
                  (sections_have [] [] os n nothing_begun (inr (subst (λ (hs : List Hold). In n (nestings_from hs os)) (empty_is (held_after held o) f) r)))
            ])
        | inr f ↦ subst (λ (ss : List (List Operation)). In n (flat_map nestings ss)) (sym (sections_goes_on held begun o os e f))
            (sections_have (held_after held o) (begun ++ o ∷ []) os n (goes_on held begun o b f) (moved held begun o os n b h))
      ]
      | inr e ↦ subst (λ (ss : List (List Operation)). In n (flat_map nestings ss)) (sym (sections_lost held begun o os e))
          (sections_have held begun os n b (lost held begun o os n e h))
    ]

abbrev pub Closed : List Operation → Type 0
Closed s = held_from [] s ≡ []

-- each section ends with nothing held
pub sections_closed : (held : List Hold) (begun : List Operation) (os : List Operation) → IsBegun held begun → AllByRecursion Closed (sections_from held begun os)
sections_closed held begun [] b =
    elim (cases_Bool (length held == 0)) [
      | inl e ↦ subst (AllByRecursion Closed) (sym (ended_none held begun e)) tt
      | inr e ↦ subst (AllByRecursion Closed) (sym (ended_some held begun e)) (
        held_from-append [] begun (closing (last_stack begun) held)
            ∙ ap (λ (hs : List Hold). held_from hs (closing (last_stack begun) held)) b.is_held
            ∙ closing_closes (last_stack begun) held,
        tt,
      )
    ]
sections_closed held begun (o ∷ os) b =
    elim (cases_Bool (is_found held o)) [
      | inl e ↦ elim (cases_Bool (length (held_after held o) == 0)) [
        | inl f ↦ subst (AllByRecursion Closed) (sym (sections_ends held begun o os e f))
            (begun_more held begun o b ∙ empty_is (held_after held o) f, sections_closed [] [] os nothing_begun)
        | inr f ↦ subst (AllByRecursion Closed) (sym (sections_goes_on held begun o os e f))
            (sections_closed (held_after held o) (begun ++ o ∷ []) os (goes_on held begun o b f))
      ]
      | inr e ↦ subst (AllByRecursion Closed) (sym (sections_lost held begun o os e)) (sections_closed held begun os b)
    ]

pub have_all : (os : List Operation) (n : Nesting) → In n (nestings os) → In n (flat_map nestings (sections os))
have_all os n h = sections_have [] [] os n nothing_begun (inr h)

pub all_closed : (os : List Operation) → AllByRecursion Closed (sections os)
all_closed os = sections_closed [] [] os nothing_begun
