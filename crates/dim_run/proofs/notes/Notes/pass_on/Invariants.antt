use Rattle.std.proofs.Common.{◌-◌, length}
use Rattle.dim_events.specs.Ring.{taken}
use Rattle.dim_run.proofs.Passed.{IsPassing}
use Rattle.dim_run.proofs.notes.Notes.pass_on.Given as goal

abbrev pub invariant-loop-monitor : goal.invariant-loop-monitor
invariant-loop-monitor l = IsPassing l.initial.gate l.gate l.self l.initial.monitor l.monitor

abbrev pub decreases-loop-monitor : goal.decreases-loop-monitor
decreases-loop-monitor l = length l.gate.entries - length (taken l.self.inbox)
