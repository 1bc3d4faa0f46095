use Rattle.std.proofs.Common.{◌≡◌}
use Rattle.dim_mutex.specs.Views.{IsCallerOf}
use Rattle.mutex_tests.proofs.stress.work.Given as goal

abbrev pub invariant-loop : goal.invariant-loop
invariant-loop g l = record {
  caller : IsCallerOf l.domain l.caller;
  number : l.caller.known.number ≡ l.initial.caller.known.number;
}
