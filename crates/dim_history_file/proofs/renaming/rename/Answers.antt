use Rattle.std.proofs.Common.{◌≡◌, List, ℕ, IfOk, sym, subst}
use Rattle.dim_stack.specs.Names.{HasNames}
use Rattle.dim_history_file.proofs.renaming.rename.Goals as goal

pub rename_into-requires : goal.rename_into-requires
rename_into-requires c = subst (λ (t : List (List ℕ)). HasNames t c.args.h.names) (sym c.in_ok-names.ensures) c.requires

pub returns-clause-names : goal.returns-clause-names
returns-clause-names c = subst (λ t. IfOk c.rename_into.result (λ r. r.names ≡ t)) c.in_ok-names.ensures c.rename_into.ensures.names
