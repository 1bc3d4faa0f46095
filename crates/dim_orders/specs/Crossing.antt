-- Which sections are kept.
use Rattle.std.specs.Prelude.{◌≡◌, ℕ, Vec, nat_eq, Bool, false, ◌||◌, not, if◌then◌else◌, List, [], ◌∷◌, ◌++◌}
use Rattle.std.specs.List.{filter, flat_map, list_any}
use Rattle.std.specs.declared.alloc.Global.{Global}
use Rattle.std.specs.Cmp.Lexicographic.{pointwise}
use Rattle.dim_orders.specs.declared.kept.Operation.{Operation}
use Rattle.dim_orders.specs.Nestings.{Nesting, nestings, crosses}

-- the numbers of a nesting: its lock and stack, and lock and stack of each hold
abbrev pub key : Nesting → List ℕ
key n = n.lock ∷ n.stack ∷ flat_map (λ h. h.lock ∷ h.stack ∷ []) n.held

-- whether a nesting is one of some
abbrev pub is_among : List Nesting → Nesting → Bool
is_among had n = list_any (λ m. pointwise nat_eq (key n) (key m)) had

-- whether one of some nestings is new to others and to those before it
abbrev pub has_new : List Nesting → List Nesting → Bool
has_new had [] = false
has_new had (n ∷ ns) = not (is_among had n) || has_new (had ++ n ∷ []) ns

-- the crossing nestings of a section
abbrev pub crossings : List ℕ → List Operation → List Nesting
crossings parts os = filter (crosses parts) (nestings os)

-- the operations of the sections that have a crossing nesting which neither these have nor a
-- section before
abbrev pub kept_from : List ℕ → List Nesting → List (List Operation) → List Operation
kept_from parts had [] = []
kept_from parts had (s ∷ ss) =
    (if has_new had (crossings parts s) then s else [])
    ++ kept_from parts (had ++ crossings parts s) ss

-- some keys are the numbers of some nestings, and no others
abbrev pub IsTable : List Nesting → List (Vec ℕ Global) → Type 0
IsTable had keys = (q : Vec ℕ Global) →
    list_any (λ k. pointwise nat_eq q.items k.items) keys
    ≡ list_any (λ m. pointwise nat_eq q.items (key m)) had

-- where some keys are the numbers of some nestings, others are those of them and more, and this is
-- whether one of the more is new
abbrev pub Adds : List (Vec ℕ Global) → List (Vec ℕ Global) → List Nesting → Bool → Type 0
Adds old new more is_new = (had : List Nesting) → IsTable had old
    → IsTable (had ++ more) new × (is_new ≡ has_new had more)
