use Rattle.std.proofs.Common.{◌∙◌}
use Rattle.dim_stack.proofs.TableLemmas.{is_table-table_of, names_of_one, table-same}
use Rattle.dim_stack.proofs.names.Names.of.Goals as goal

pub returns : goal.returns
returns c =
    c.in_ok-sort_words.ensures
    ∙ table-same c.add_words.new.table.keys c.args.words.now (names_of_one c.new-table.result.keys c.args.words.now c.add_words.new.table.keys c.new-table.ensures.empty c.in_ok-add_words.ensures)

pub invariant_of-result : goal.invariant_of-result
invariant_of-result c = rw (returns c) (is_table-table_of c.args.words.now c.requires.few c.requires.named)
