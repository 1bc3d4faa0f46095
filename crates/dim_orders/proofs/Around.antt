-- Around a cycle all locks are in one part.
use Rattle.std.proofs.Common.{◌≡◌, inl, inr, ℕ, ◌≤◌, ◌==◌, true, false, List, [], ◌∷◌, ap, subst, ◌∙◌, arith, eqb-true, eq-eqb, leb-true}
use Rattle.std.specs.Prelude.{nat_le}
use Rattle.std.specs.List.{list_any, list_all, AllByRecursion}
use Rattle.std.proofs.lemmas.Bool.{or_cases, and_parts, or_left, or_right}
use Rattle.dim_orders.specs.declared.hold.Hold.{Hold}
use Rattle.dim_orders.specs.Holding.{holds}
use Rattle.dim_orders.specs.Nestings.{Nesting, part, is_down, crosses}
use Rattle.dim_orders.specs.Cycles.{Wait, Leads, IsCycle}

below_all : (parts : List ℕ) (x l : ℕ) (hs : List Hold) → list_all (λ h. nat_le x (part parts h.lock)) hs ≡ true → holds hs l ≡ true → x ≤ part parts l
below_all parts x l [] all among = absurd (let e : false ≡ true = among in cc)
below_all parts x l (h ∷ hs) all among =
    let both = and_parts (nat_le x (part parts h.lock)) (list_all (λ (g : Hold). nat_le x (part parts g.lock)) hs) all in
    elim (or_cases (h.lock == l) (holds hs l) among) [
      | inl e ↦ subst (λ (m : ℕ). x ≤ part parts m) (eqb-true h.lock l e) (leb-true x (part parts h.lock) both.0)
      | inr r ↦ below_all parts x l hs both.1 r
    ]

-- an order of a nesting does not go up
pub down_at : (parts : List ℕ) (n : Nesting) (l : ℕ) → is_down parts n ≡ true → holds n.held l ≡ true → part parts n.lock ≤ part parts l
down_at parts n l d h = below_all parts (part parts n.lock) l n.held d h

any_at : (parts : List ℕ) (x l : ℕ) (hs : List Hold) → holds hs l ≡ true → part parts l ≡ x → list_any (λ h. part parts h.lock == x) hs ≡ true
any_at parts x l [] among e = absurd (let f : false ≡ true = among in cc)
any_at parts x l (h ∷ hs) among e =
    elim (or_cases (h.lock == l) (holds hs l) among) [
      | inl q ↦ or_left (part parts h.lock == x) (list_any (λ (g : Hold). part parts g.lock == x) hs) (eq-eqb _ _ (ap (part parts) (eqb-true h.lock l q) ∙ e))
      | inr r ↦ or_right (part parts h.lock == x) (list_any (λ (g : Hold). part parts g.lock == x) hs) (any_at parts x l hs r e)
    ]

-- a nesting behind a lock of its own part crosses
pub crosses_at : (parts : List ℕ) (n : Nesting) (l : ℕ) → holds n.held l ≡ true → part parts l ≡ part parts n.lock → crosses parts n ≡ true
crosses_at parts n l h e = any_at parts (part parts n.lock) l n.held h e

abbrev pub Down : List ℕ → Wait → Type 0
Down parts w = is_down parts w.nesting ≡ true

abbrev pub Crosses : List ℕ → Wait → Type 0
Crosses parts w = crosses parts w.nesting ≡ true

-- along waits parts do not go up
down_along : (parts : List ℕ) (a : Wait) (ns : List Wait) (z : Wait) → Leads a ns z → AllByRecursion (Down parts) ns → Down parts z → part parts z.nesting.lock ≤ part parts a.nesting.lock
down_along parts a [] z leads each last = down_at parts z.nesting a.nesting.lock last leads
down_along parts a (b ∷ bs) z leads each last =
    let rest = down_along parts b bs z leads.1 each.1 last in
    let here = down_at parts b.nesting a.nesting.lock each.0 leads.0 in
    omega (arith, rest, here)

all_cross : (parts : List ℕ) (a : Wait) (ns : List Wait) (z : Wait) → Leads a ns z → AllByRecursion (Down parts) ns → Down parts z → part parts a.nesting.lock ≤ part parts z.nesting.lock → AllByRecursion (Crosses parts) ns × Crosses parts z
all_cross parts a [] z leads each last up =
    let here = down_at parts z.nesting a.nesting.lock last leads in
    (tt, crosses_at parts z.nesting a.nesting.lock leads (omega (arith, here, up)))
all_cross parts a (b ∷ bs) z leads each last up =
    let here = down_at parts b.nesting a.nesting.lock each.0 leads.0 in
    let behind = down_along parts b bs z leads.1 each.1 last in
    let rest = all_cross parts b bs z leads.1 each.1 last (omega (arith, here, up)) in
    ((crosses_at parts b.nesting a.nesting.lock leads.0 (omega (arith, here, behind, up)), rest.0), rest.1)

-- each nesting of a cycle of which no order goes up crosses
pub cycle_crosses : (parts : List ℕ) (ws : List Wait) → IsCycle ws → AllByRecursion (Down parts) ws → AllByRecursion (Crosses parts) ws
cycle_crosses parts [] cycle each = absurd cycle
cycle_crosses parts (w ∷ ws) cycle each =
    let up : part parts w.nesting.lock ≤ part parts w.nesting.lock = omega arith in
    let r = all_cross parts w ws w cycle each.1 each.0 up in
    (r.1, r.0)
