use Rattle.dim_stack.proofs.TableLemmas.{only_table, sorted_ascends}
use Rattle.dim_stack.proofs.names.sort_words.Goals as goal

pub returns : goal.returns
returns c = only_table c.args.table.now.keys c.sort.new.self.keys (sorted_ascends c.sort.new.self.keys c.in_ok-sort.ensures.sorted c.sort.ensures.unique) c.sort.ensures.reordered.2
