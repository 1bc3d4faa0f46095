use Rattle.dim_stack.proofs.TableLemmas.{is_table-table_of}
use Rattle.dim_stack.proofs.names.Names.of_set.Goals as goal

pub invariant_of-result : goal.invariant_of-result
invariant_of-result c = rw c.in_ok-sort_words.ensures (is_table-table_of c.args.set.keys c.requires.few c.requires.named)
