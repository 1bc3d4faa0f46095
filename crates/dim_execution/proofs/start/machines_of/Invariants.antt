use Rattle.std.proofs.Common.{◌≡◌}
use Rattle.dim_execution.specs.Start.{starts}
use Rattle.dim_execution.proofs.start.machines_of.Given as goal

abbrev pub invariant-loop-t : goal.invariant-loop-t
invariant-loop-t l = l.machines.items ≡ starts l.program l.fuel l.t
