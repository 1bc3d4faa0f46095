-- Nestings by places of the log.
use Rattle.std.proofs.Common.{◌≡◌, inl, inr, ℕ, zero, suc, ◌==◌, Bool, true, false, if◌then◌else◌, List, [], ◌∷◌, ◌++◌, Some, slice_get, take, refl, sym, ap, subst, ◌∙◌, eqb-true, eq-eqb}
use Rattle.std.proofs.lemmas.Bool.{cases_Bool, not-true}
use Rattle.std.proofs.lemmas.Option.{none-some, same_Some}
use Rattle.dim_log.specs.declared.log.Event.{Event}
use Rattle.dim_log.specs.declared.log.Event.TheVariants.{Lock, Try, Unlock, Start, Join}
use Rattle.dim_orders.specs.declared.hold.Hold.{Hold}
use Rattle.dim_orders.specs.declared.kept.Deed.TheVariants as deed
use Rattle.dim_orders.specs.declared.kept.Operation.{Operation}
use Rattle.dim_orders.specs.Holding.{held_from, holds}
use Rattle.dim_orders.specs.Own.{own, own_of}
use Rattle.dim_orders.specs.Nestings.{Nesting, asked, nesting, nestings, nestings_from, waits}
use Rattle.dim_orders.specs.Cycles.{PlacesLaw}
use Rattle.dim_orders.proofs.Members.{In, contains_from_in, in_either, in_from_contains, in_left, in_right}
use Rattle.dim_orders.proofs.Replays.{held_from-append, nestings_from-append}

asked_in : (held : List Hold) (o : Operation) (n : Nesting) → In n (asked held o) → (waits held o ≡ true) × (n ≡ nesting held o)
asked_in held o n h =
    elim (cases_Bool (waits held o)) [
      | inl p ↦ (p, elim (subst (λ (b : Bool). In n (if b then nesting held o ∷ [] else [])) p h) [ inl e ↦ e | inr none ↦ absurd none ])
      | inr p ↦ absurd (subst (λ (b : Bool). In n (if b then nesting held o ∷ [] else [])) p h)
    ]

abbrev Found : ℕ → List Hold → Event → Nesting → Type 0
Found t held e n = (e ≡ Lock t n.lock n.stack) × (held ≡ n.held) × (holds n.held n.lock ≡ false)

taken_in : (t thread lock stack : ℕ) (held : List Hold) (n : Nesting) → (thread == t) ≡ true → In n (asked held (record { deed = deed.Lock; lock = lock; stack = stack }) ++ []) → Found t held (Lock thread lock stack) n
taken_in t thread lock stack held n q h =
    let o : Operation = record { deed = deed.Lock; lock = lock; stack = stack } in
    elim (in_either n (asked held o) [] h) [
      | inl a ↦ (let r = asked_in held o n a in
          subst (Found t held (Lock thread lock stack)) (sym r.1)
          (ap (λ (u : ℕ). Lock u lock stack) (eqb-true thread t q), refl, not-true (holds held lock) r.0))
      | inr none ↦ absurd none
    ]

own_in : (t : ℕ) (held : List Hold) (e : Event) (n : Nesting) → In n (nestings_from held (own_of t e)) → Found t held e n
own_in t held (Lock thread lock stack) n h =
    elim (cases_Bool (thread == t)) [
      | inl q ↦ taken_in t thread lock stack held n q (subst (λ (b : Bool). In n (nestings_from held (if b then record { deed = deed.Lock; lock = lock; stack = stack } ∷ [] else []))) q h)
      | inr q ↦ absurd (subst (λ (b : Bool). In n (nestings_from held (if b then record { deed = deed.Lock; lock = lock; stack = stack } ∷ [] else []))) q h)
    ]
own_in t held (Try thread lock stack true) n h =
    elim (cases_Bool (thread == t)) [
      | inl q ↦ absurd (subst (λ (b : Bool). In n (nestings_from held (if b then record { deed = deed.Try; lock = lock; stack = stack } ∷ [] else []))) q h)
      | inr q ↦ absurd (subst (λ (b : Bool). In n (nestings_from held (if b then record { deed = deed.Try; lock = lock; stack = stack } ∷ [] else []))) q h)
    ]
own_in t held (Try thread lock stack false) n h =
    elim (cases_Bool (thread == t)) [
      | inl q ↦ absurd (subst (λ (b : Bool). In n (nestings_from held (if b then [] else []))) q h)
      | inr q ↦ absurd (subst (λ (b : Bool). In n (nestings_from held (if b then [] else []))) q h)
    ]
own_in t held (Unlock thread lock stack) n h =
    elim (cases_Bool (thread == t)) [
      | inl q ↦ absurd (subst (λ (b : Bool). In n (nestings_from held (if b then record { deed = deed.Unlock; lock = lock; stack = stack } ∷ [] else []))) q h)
      | inr q ↦ absurd (subst (λ (b : Bool). In n (nestings_from held (if b then record { deed = deed.Unlock; lock = lock; stack = stack } ∷ [] else []))) q h)
    ]
own_in t held (Start thread other) n h =
    elim (cases_Bool (thread == t)) [
      | inl q ↦ absurd (subst (λ (b : Bool). In n (nestings_from held (if b then [] else []))) q h)
      | inr q ↦ absurd (subst (λ (b : Bool). In n (nestings_from held (if b then [] else []))) q h)
    ]
own_in t held (Join thread other) n h =
    elim (cases_Bool (thread == t)) [
      | inl q ↦ absurd (subst (λ (b : Bool). In n (nestings_from held (if b then [] else []))) q h)
      | inr q ↦ absurd (subst (λ (b : Bool). In n (nestings_from held (if b then [] else []))) q h)
    ]

in_places : (t : ℕ) (held : List Hold) (events : List Event) (n : Nesting) → In n (nestings_from held (own t events)) → (p : ℕ) × (slice_get events p ≡ Some (Lock t n.lock n.stack)) × (held_from held (own t (take p events)) ≡ n.held) × (holds n.held n.lock ≡ false)
in_places t held [] n h = absurd h
in_places t held (e ∷ es) n h =
    elim (in_either n (nestings_from held (own_of t e)) (nestings_from (held_from held (own_of t e)) (own t es)) (subst (In n) (nestings_from-append held (own_of t e) (own t es)) h)) [
      | inl a ↦ (let r = own_in t held e n a in (0, ap Some r.0, r.1, r.2))
      | inr b ↦ (let r = in_places t (held_from held (own_of t e)) es n b in
          (suc r.0, r.1, held_from-append held (own_of t e) (own t (take r.0 es)) ∙ r.2, r.3))
    ]

asked_has : (held : List Hold) (n : Nesting) → held ≡ n.held → holds n.held n.lock ≡ false → In n (asked held (record { deed = deed.Lock; lock = n.lock; stack = n.stack }))
asked_has held n e free =
    subst (λ (hs : List Hold). In n (asked hs (record { deed = deed.Lock; lock = n.lock; stack = n.stack }))) (sym e) (rw free (inl refl))

own_has : (t : ℕ) (held : List Hold) (n : Nesting) → held ≡ n.held → holds n.held n.lock ≡ false → In n (nestings_from held (own_of t (Lock t n.lock n.stack)))
own_has t held n e free =
    rw (eq-eqb t t refl) (in_left n (asked held (record { deed = deed.Lock; lock = n.lock; stack = n.stack })) [] (asked_has held n e free))

from_places : (t : ℕ) (held : List Hold) (events : List Event) (n : Nesting) (p : ℕ) → slice_get events p ≡ Some (Lock t n.lock n.stack) → held_from held (own t (take p events)) ≡ n.held → holds n.held n.lock ≡ false → In n (nestings_from held (own t events))
from_places t held [] n p at e free = absurd (none-some (Lock t n.lock n.stack) at)
from_places t held (ev ∷ es) n zero at e free =
    subst (In n) (sym (nestings_from-append held (own_of t ev) (own t es)))
    (in_left n (nestings_from held (own_of t ev)) (nestings_from (held_from held (own_of t ev)) (own t es))
    (subst (λ (x : Event). In n (nestings_from held (own_of t x))) (sym (same_Some ev (Lock t n.lock n.stack) at)) (own_has t held n e free)))
from_places t held (ev ∷ es) n (suc p) at e free =
    subst (In n) (sym (nestings_from-append held (own_of t ev) (own t es)))
    (in_right n (nestings_from held (own_of t ev)) (nestings_from (held_from held (own_of t ev)) (own t es))
    (from_places t (held_from held (own_of t ev)) es n p at (sym (held_from-append held (own_of t ev) (own t (take p es))) ∙ e) free))

pub places : PlacesLaw
places events w = (
  (λ h. let r = in_places w.thread [] events w.nesting (in_from_contains (nestings (own w.thread events)) w.nesting h) in
      record { place = r.0; taken = r.1; held = r.2; not_held = r.3 }),
  (λ h. contains_from_in (nestings (own w.thread events)) w.nesting
      (from_places w.thread [] events w.nesting h.place h.taken h.held h.not_held)),
)
