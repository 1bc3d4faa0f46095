use Rattle.std.proofs.Common.{length, []}
use Rattle.dim_history_file.specs.Naming.{names_in, names_in_lines}
use Rattle.dim_history_file.proofs.Using.{Gathers}
use Rattle.dim_history_file.proofs.names.collect.Given as goal

abbrev pub invariant-loop-line : goal.invariant-loop-line
invariant-loop-line l = Gathers [] (names_in l.bytes) l.table.keys (names_in_lines l.lines)

abbrev pub decreases-loop-line : goal.decreases-loop-line
decreases-loop-line l = length l.lines
