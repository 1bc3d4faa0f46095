use Rattle.std.proofs.Common.{◌≡◌}
use Rattle.dim_turn.specs.Passes.{IsSameSeat}
use Rattle.dim_turn.proofs.turn.Turn.is_soon_served.Given as goal

abbrev pub invariant-loop : goal.invariant-loop
invariant-loop g l = IsSameSeat l.initial.seat l.seat × (l.seat.me ≡ l.initial.seat.me)
