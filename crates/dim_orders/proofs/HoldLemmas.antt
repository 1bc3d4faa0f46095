-- The newest hold of a lock.
use Rattle.std.proofs.Common.{◌≡◌, ◌⊎◌, inl, inr, ℕ, zero, suc, ◌+◌, ◌<◌, ◌==◌, Bool, true, false, ◌||◌, List, [], ◌∷◌, length, get_or, drop, refl, ap, ◌∙◌, arith}
use Rattle.std.specs.List.{remove}
use Rattle.std.proofs.lemmas.List.{drop_more}
use Rattle.std.proofs.lemmas.List.Folds.{list_any_at}
use Rattle.dim_orders.specs.declared.hold.Hold.{Hold}
use Rattle.dim_orders.specs.Holding.{holds, let_go}

pub or_false : (a b : Bool) → (a || b) ≡ false → (a ≡ false) × (b ≡ false)
or_false true b e = cc
or_false false b e = (refl, e)

pub or_true : (a b : Bool) → (a || b) ≡ true → (a ≡ true) ⊎ (b ≡ true)
or_true true b e = inl refl
or_true false b e = inr e

-- nothing goes where none is of the lock
pub let_go_none : (lock : ℕ) (hs : List Hold) → holds hs lock ≡ false → let_go lock hs ≡ hs
let_go_none lock [] e = refl
let_go_none lock (h ∷ hs) e =
    let f = or_false (h.lock == lock) (holds hs lock) e in
    rw (f.1, f.0) refl

-- the one of the lock behind which there is none goes
pub let_go_at : (lock : ℕ) (hs : List Hold) (i : ℕ) (d : Hold) → i < length hs → ((get_or hs i d).lock == lock) ≡ true → holds (drop (suc i) hs) lock ≡ false → let_go lock hs ≡ remove hs i
let_go_at lock [] i d lt here rest = absurd (omega arith)
let_go_at lock (h ∷ hs) zero d lt here rest = rw (rest, here) refl
let_go_at lock (h ∷ hs) (suc i) d lt here rest =
    let among : holds hs lock ≡ true = list_any_at (λ (x : Hold). x.lock == lock) hs i d (omega arith) here in
    rw among (ap (λ (x : List Hold). h ∷ x) (let_go_at lock hs i d (omega arith) here rest))

-- one hold more that is not of the lock
pub holds_more : (lock : ℕ) (hs : List Hold) (i : ℕ) (d : Hold) → i < length hs → ((get_or hs i d).lock == lock) ≡ false → holds (drop (i + 1) hs) lock ≡ false → holds (drop i hs) lock ≡ false
holds_more lock hs i d lt here rest =
    ap (λ (x : List Hold). holds x lock) (drop_more hs i d lt) ∙ rw here rest
