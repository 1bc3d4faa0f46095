-- The same of signatures whose functions are numbers of one table.
use Rattle.std.specs.Prelude.{◌≢◌, AllPairs, ℕ, not, Bool, List, Option, Some, None}
use Rattle.std.specs.List.{filter, find, list_any}
use Rattle.dim_stack.specs.declared.Frame.{Frame}
use Rattle.dim_signature.specs.Sig.{Sig, counted}
use Rattle.dim_signature.specs.Catalogue.{has_stacks}

abbrev pub yields_of : Option Sig → ℕ
yields_of None = 0
yields_of (Some s) = s.yields

abbrev pub yields_for : List Sig → List (List Frame) → ℕ
yields_for sigs stacks = yields_of (find (has_stacks stacks) sigs)

abbrev pub with_yields : List Sig → Sig → Sig
with_yields others s = counted (yields_for others s.stacks) s

abbrev pub is_unknown_to : List Sig → Sig → Bool
is_unknown_to sigs s = not (list_any (has_stacks s.stacks) sigs)

abbrev pub unknown_to : List Sig → List Sig → List Sig
unknown_to sigs others = filter (is_unknown_to sigs) others

-- no two of some signatures have the same stacks
abbrev pub AreDifferent : List Sig → Type 0
AreDifferent sigs = AllPairs (λ s t. s.stacks ≢ t.stacks) sigs
