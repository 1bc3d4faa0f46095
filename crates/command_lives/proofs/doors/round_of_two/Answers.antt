use Rattle.std.proofs.Common.{zero, suc, ap, ◌∙◌, arith}
use Rattle.command_lives.proofs.doors.round_of_two.Goals as goal

pub finish-book-requires-clause-numbers : goal.finish-book-requires-clause-numbers
finish-book-requires-clause-numbers g c κs zero d lt = (c.work_round-moves.ensures.worked.each zero d lt).worked.number ∙ ap (λ p. p.number) c.seat_of.ensures.pass ∙ ap (λ k. k.number) c.in_ok-gate.ensures.first.1
finish-book-requires-clause-numbers g c κs (suc zero) d lt = (c.work_round-moves.ensures.worked.each (suc zero) d lt).worked.number ∙ ap (λ p. p.number) c.seat_of-2.ensures.pass ∙ ap (λ k. k.number) c.in_ok-gate.ensures.second.1
finish-book-requires-clause-numbers g c κs (suc (suc i)) d lt = absurd (omega (arith, lt))
