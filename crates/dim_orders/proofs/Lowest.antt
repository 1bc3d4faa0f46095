-- With no parts nothing goes up.
use Rattle.std.proofs.Common.{◌≡◌, ℕ, true, List, [], ◌∷◌, refl, sym, subst}
use Rattle.std.specs.Prelude.{nat_le}
use Rattle.std.specs.List.{list_all}
use Rattle.std.proofs.lemmas.Bool.{and_from}
use Rattle.dim_orders.specs.declared.hold.Hold.{Hold}
use Rattle.dim_orders.specs.declared.kept.Operation.{Operation}
use Rattle.dim_orders.specs.Nestings.{Nesting, are_down, is_down, nestings, part}

all_low : (l : ℕ) (hs : List Hold) → list_all (λ (h : Hold). nat_le (part [] l) (part [] h.lock)) hs ≡ true
all_low l [] = refl
all_low l (h ∷ hs) = all_low l hs

each_low : (ns : List Nesting) → list_all (is_down []) ns ≡ true
each_low [] = refl
each_low (n ∷ ns) = and_from (is_down [] n) (list_all (is_down []) ns) (all_low n.lock n.held) (each_low ns)

pub low : (parts : List ℕ) (os : List Operation) → parts ≡ [] → are_down parts os ≡ true
low parts os e = subst (λ (ps : List ℕ). are_down ps os ≡ true) (sym e) (each_low (nestings os))
