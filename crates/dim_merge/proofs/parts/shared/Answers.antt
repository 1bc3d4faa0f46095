use Rattle.std.proofs.Common.{List, ℕ, sym, subst}
use Rattle.dim_stack.specs.Names.{HasNames}
use Rattle.dim_merge.proofs.parts.shared.Goals as goal

pub rename-requires : goal.rename-requires
rename-requires c =
    let first = c.args.first.names in
    subst (λ (n : List (List ℕ)). HasNames n first) (sym c.in_ok-names.ensures) (c.merged_law.ensures.first first c.args.second.names first (λ name there. there))

pub rename-requires-2 : goal.rename-requires-2
rename-requires-2 c =
    let second = c.args.second.names in
    subst (λ (n : List (List ℕ)). HasNames n second) (sym c.in_ok-names.ensures) (c.merged_law.ensures.second c.args.first.names second second (λ name there. there))
