-- What is held, and the nestings, over one list of operations behind another.
use Rattle.std.proofs.Common.{◌≡◌, ℕ, ◌==◌, true, false, List, [], ◌∷◌, ◌++◌, map, reverse, refl, sym, ap, subst, ◌∙◌, eq-eqb}
use Rattle.std.proofs.lemmas.Bool.{or_left, or_right}
use Rattle.std.proofs.lemmas.List.{append_assoc, reverse-append, reverse-reverse}
use Rattle.dim_orders.specs.declared.hold.Hold.{Hold}
use Rattle.dim_orders.specs.declared.kept.Operation.{Operation}
use Rattle.dim_orders.specs.declared.kept.Deed.TheVariants as deed
use Rattle.dim_orders.specs.Holding.{holds, let_go, held_after, held_from}
use Rattle.dim_orders.specs.Nestings.{Nesting, asked, nestings_from, nestings}
use Rattle.dim_orders.specs.Sections.{closing}

pub held_from-append : (held : List Hold) (xs ys : List Operation) → held_from held (xs ++ ys) ≡ held_from (held_from held xs) ys
held_from-append held [] ys = refl
held_from-append held (x ∷ xs) ys = held_from-append (held_after held x) xs ys

pub nestings_from-append : (held : List Hold) (xs ys : List Operation) → nestings_from held (xs ++ ys) ≡ nestings_from held xs ++ nestings_from (held_from held xs) ys
nestings_from-append held [] ys = refl
nestings_from-append held (x ∷ xs) ys =
    ap (λ (ns : List Nesting). asked held x ++ ns) (nestings_from-append (held_after held x) xs ys)
    ∙ sym (append_assoc (asked held x) (nestings_from (held_after held x) xs) (nestings_from (held_from (held_after held x) xs) ys))

-- operations from nothing behind some that end with nothing
pub nestings-append : (xs ys : List Operation) → held_from [] xs ≡ [] → nestings (xs ++ ys) ≡ nestings xs ++ nestings ys
nestings-append xs ys e = nestings_from-append [] xs ys ∙ ap (λ (hs : List Hold). nestings xs ++ nestings_from hs ys) e

pub closed-append : (xs ys : List Operation) → held_from [] xs ≡ [] → held_from [] ys ≡ [] → held_from [] (xs ++ ys) ≡ []
closed-append xs ys e f = held_from-append [] xs ys ∙ ap (λ (hs : List Hold). held_from hs ys) e ∙ f

holds_last : (hs : List Hold) (h : Hold) → holds (hs ++ h ∷ []) h.lock ≡ true
holds_last [] h = or_left (h.lock == h.lock) false (eq-eqb h.lock h.lock refl)
holds_last (g ∷ gs) h = or_right (g.lock == h.lock) (holds (gs ++ h ∷ []) h.lock) (holds_last gs h)

-- the newest hold goes
pub let_go_last : (hs : List Hold) (h : Hold) → let_go h.lock (hs ++ h ∷ []) ≡ hs
let_go_last [] h = rw (eq-eqb h.lock h.lock refl) refl
let_go_last (g ∷ gs) h = rw (holds_last gs h) (ap (λ (x : List Hold). g ∷ x) (let_go_last gs h))

-- unlocks of holds, from the newest
abbrev pub unlocks : ℕ → List Hold → List Operation
unlocks stack hs = map (λ h. record { deed = deed.Unlock; lock = h.lock; stack = stack }) hs

unlocks_close : (stack : ℕ) (rs : List Hold) → held_from (reverse rs) (unlocks stack rs) ≡ []
unlocks_close stack [] = refl
unlocks_close stack (r ∷ rs) =
    ap (λ (hs : List Hold). held_from (let_go r.lock hs) (unlocks stack rs)) (reverse-append (r ∷ []) rs)
    ∙ ap (λ (hs : List Hold). held_from hs (unlocks stack rs)) (let_go_last (reverse rs) r)
    ∙ unlocks_close stack rs

-- the closing unlocks leave nothing held
pub closing_closes : (stack : ℕ) (held : List Hold) → held_from held (closing stack held) ≡ []
closing_closes stack held =
    subst (λ (hs : List Hold). held_from hs (unlocks stack (reverse held)) ≡ []) (reverse-reverse held) (unlocks_close stack (reverse held))
