use Rattle.std.proofs.Common.{◌≡◌, false}
use Rattle.dim_mutex.specs.Standing.{holds, MayWait}
use Rattle.dim_mutex.specs.Views.{IsCallerOf}
use Rattle.locks_bench.proofs.locking.take_and_free.Given as goal

abbrev pub invariant-loop : goal.invariant-loop
invariant-loop g l = record {
  can : (goal.iterator-loop g).can_next l.iterator';
  ends : (goal.iterator-loop g).is_finite l.iterator';
  caller : IsCallerOf l.domain l.caller;
  number : l.caller.known.number ≡ l.initial.caller.known.number;
  free : holds l.slot.value.l.0 l.caller.known ≡ false;
  may : MayWait l.slot.value.l l.stack l.caller.known;
}
