use Rattle.std.proofs.Common.{◌≡◌, IfOk, subst}
use Rattle.dim_history_file.proofs.Sound.{copied_table}
use Rattle.dim_history_file.proofs.renaming.copied.Goals as goal

pub returns : goal.returns
returns c =
    subst (λ t. IfOk c.merge.result (λ n. n ≡ t)) (copied_table c.args.names.now c.in_ok-none.none c.len-few.ensures.table.ascending c.in_ok-none.ensures) c.merge.ensures
