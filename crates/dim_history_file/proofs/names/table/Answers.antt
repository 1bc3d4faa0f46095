use Rattle.std.proofs.Common.{◌≡◌, IfOk, subst}
use Rattle.dim_history_file.proofs.Using.{gathered_named, gathered_table}
use Rattle.dim_history_file.proofs.names.table.Goals as goal

pub of_set-requires-clause-named : goal.of_set-requires-clause-named
of_set-requires-clause-named c = gathered_named c.args.bytes.now c.in_ok-table.table.keys c.in_ok-table.ensures

pub returns : goal.returns
returns c =
    subst (λ t. IfOk c.of_set.result (λ n. n ≡ t)) (gathered_table c.args.bytes.now c.in_ok-table.table.keys c.in_ok-table.ensures) c.of_set.ensures
