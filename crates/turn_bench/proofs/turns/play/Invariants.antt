use Rattle.std.proofs.Common.{◌≡◌, ◌≤◌, ◌+◌}
use Rattle.dim_turn.specs.Passes.{IsPassOf}
use Rattle.turn_bench.proofs.turns.play.Given as goal

abbrev pub invariant-loop-step : goal.invariant-loop-step
invariant-loop-step g l = record {
  pass : IsPassOf l.turn l.pass;
  number : l.pass.number ≡ l.initial.pass.number;
  left : l.steps ≤ l.pass.left + l.step;
}
