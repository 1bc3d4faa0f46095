use Rattle.std.proofs.Common.{arith, ap, sym}
use Rattle.dim_vm.specs.Door.{Seen}
use Rattle.dim_vm.proofs.Exports.{yields_last}
use Rattle.run_tests.proofs.fake.Fake.note.Goals as goal

pub invariant_of-self : goal.invariant_of-self
invariant_of-self c =
    (omega arith, λ y. yields_last c.self.inside.own.items _ _ c.in-Some.e _ _ c.append.ensures.items c.in-Some.is c.requires.thread (sym (ap (λ (z : Seen). z.thread) c.self.view_is)) (c.is_yield-self-inside.ensures y))
