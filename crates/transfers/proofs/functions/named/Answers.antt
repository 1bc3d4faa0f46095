use Rattle.std.proofs.Common.{List, ℕ, sym, subst}
use Rattle.dim_stack.specs.Names.{HasNames}
use Rattle.transfers.proofs.functions.named.Goals as goal

pub rename-requires : goal.rename-requires
rename-requires c =
    let h = c.args.history.names in
    subst (λ (n : List (List ℕ)). HasNames n h) (sym c.in_ok-names.ensures) (c.merged_law.ensures.second c.in_ok-own.own h h (λ name there. there))
