use Rattle.std.proofs.Common.{length}
use Rattle.dim_history_file.specs.Naming.{names_in_line, names_in_words}
use Rattle.dim_history_file.proofs.Using.{Gathers}
use Rattle.dim_history_file.proofs.names.add_line.Given as goal

abbrev pub invariant-loop-word : goal.invariant-loop-word
invariant-loop-word l = Gathers l.fn.table.keys (names_in_line l.line) l.table.keys (names_in_words l.words)

abbrev pub decreases-loop-word : goal.decreases-loop-word
decreases-loop-word l = length l.words
