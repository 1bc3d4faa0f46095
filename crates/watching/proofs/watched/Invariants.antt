use Rattle.dim_events.specs.Watching.{IsPassOf}
use Rattle.watching.proofs.watched.Given as goal

abbrev pub invariant-loop : goal.invariant-loop
invariant-loop l = IsPassOf l.watch l.pass
