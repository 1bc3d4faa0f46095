use Rattle.dim_gate.specs.Notes.{IsInboxOf}
use Rattle.turn_bench.proofs.desk.play_fed.Given as goal

abbrev pub invariant-loop-step : goal.invariant-loop-step
invariant-loop-step l = IsInboxOf l.desk.gate.feed l.inbox
