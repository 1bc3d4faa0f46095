use Rattle.std.proofs.Common.{subst, ◌≡◌, ◌≤◌, arith}
use Rattle.dim_vm.proofs.Asks.{may_end_empty}
use Rattle.dim_vm.proofs.Turns.{turned_plain}
use Rattle.dim_vm.proofs.machine.Machine.turn.Goals as goal

pub returns-in-Plain-clause-turned : goal.returns-in-Plain-clause-turned
returns-in-Plain-clause-turned g c =
    turned_plain c.args.program.now c.args.self.now _ _ _ _ c.requires.fits c.requires.thread c.requires.going (subst (λ x. 1 ≤ x.units) c.self.view_is (omega (arith, c.if-self-eq0.false))) c.in-Plain.ensures.step

pub finish-requires-clause-may : goal.finish-requires-clause-may
finish-requires-clause-may g c =
    may_end_empty c.args.program.now c.args.self.now (g.D.Door.seen c.args.door.now) c.requires.fits c.requires.thread c.requires.going (subst (λ x. x.units ≡ 0) c.self.view_is c.if-self-eq0.true)
