-- Where no thread waits for one that waits, there is no cycle.
use Rattle.std.proofs.Common.{◌≡◌, ℕ, zero, suc, ◌<◌, Bool, true, false, eqb, ltb, refl, ap, sym, ◌∙◌, subst, arith, List, [], ◌∷◌, ◌++◌}
use Rattle.std.specs.Prelude.{if◌then◌else◌, Option, Some, None, IfSome, is_some, option_map}
use Rattle.std.specs.Option.{option_to_list}
use Rattle.dim_base.specs.declared.Tid.{Tid}
use Rattle.dim_rag.specs.declared.entry.Edge.{Edge}
use Rattle.dim_rag.specs.Steps.{Step, onward, walk, cycles_below}
use Rattle.dim_monitor.specs.Found.{beyond}

-- a walk ends where the step leads nowhere
ends_here : (s : Step) (t more at : ℕ) (so_far : List ℕ) → s at ≡ None → walk s t more at so_far ≡ None
ends_here s t zero at so_far q = refl
ends_here s t (suc more) at so_far q = ap (onward t so_far (λ e. walk s t more e.t.0 (so_far ++ e.birth ∷ []))) q

none_all : (a b : Bool) (x : Option (List ℕ)) → x ≡ None → (if a then None else (if b then None else x)) ≡ None
none_all true b x q = refl
none_all false true x q = refl
none_all false false x q = q

-- a walk of at most one step finds no cycle
one_step : (s : Step) (t more : ℕ) (o : Option Edge) → beyond s o ≡ None → onward t [] (λ e. walk s t more e.t.0 ([] ++ e.birth ∷ [])) o ≡ None
one_step s t more None q = refl
one_step s t more (Some e) q = none_all (eqb e.t.0 t) (ltb e.t.0 t) (walk s t more e.t.0 (e.birth ∷ [])) (ends_here s t more e.t.0 (e.birth ∷ []) q)

-- nothing is there where it is seen that nothing is
none_there : {A : Type 0} (o : Option A) → false ≡ is_some o → o ≡ None
none_there None q = refl
none_there (Some a) q = absurd (cc)

no_walk : (s : Step) (t n : ℕ) → beyond s (s t) ≡ None → walk s t n t [] ≡ None
no_walk s t zero q = refl
no_walk s t (suc more) q = one_step s t more (s t) q

pub no_cycles : (s : Step) (n k : ℕ) → ((t : ℕ) → t < k → beyond s (s t) ≡ None) → cycles_below s n k ≡ []
no_cycles s n zero q = refl
no_cycles s n (suc k) q =
    ap (λ (cs : List (List ℕ)). cs ++ option_to_list (walk s k n k [])) (no_cycles s n k (λ t lt. q t (omega arith)))
    ∙ ap (λ (o : Option (List ℕ)). option_to_list o) (no_walk s k n (q k (omega arith)))

-- no walk, seen by what comes beyond the first step
pub unwalked : (s : Step) (t n : ℕ) → false ≡ is_some (beyond s (s t)) → false ≡ is_some (walk s t n t [])
unwalked s t n q = sym (ap (λ (o : Option (List ℕ)). is_some o) (no_walk s t n (none_there (beyond s (s t)) q)))

-- the owner of an edge is low where the edge's is
pub owner_low : (n : ℕ) (o : Option Edge) (r : Option Tid) → r ≡ option_map (λ (e : Edge). e.t) o → ((e : Edge) → o ≡ Some e → e.t.0 < n) → IfSome r (λ (u : Tid). u.0 < n)
owner_low n None r is low = subst (λ (x : Option Tid). IfSome x (λ (u : Tid). u.0 < n)) (sym is) tt
owner_low n (Some e) r is low = subst (λ (x : Option Tid). IfSome x (λ (u : Tid). u.0 < n)) (sym is) (low e refl)
