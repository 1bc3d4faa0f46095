use Rattle.std.proofs.Common.{◌≡◌, Some, rules}
use Rattle.dim_stack.specs.Names.{name_number}
use Rattle.dim_history_file.proofs.Using.{number_named}
use Rattle.dim_history_file.proofs.frames.found.Goals as goal

pub returns-clause-name : goal.returns-clause-name
returns-clause-name c =
    let at : name_number c.args.names.now c.args.name.now ≡ Some c.in_ok-number.number = search rules in
    number_named c.args.names.now c.len-table.ensures.table.named c.args.name.now c.in_ok-number.number at
