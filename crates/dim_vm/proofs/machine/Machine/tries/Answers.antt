use Rattle.dim_vm.proofs.Following.{trying_is}
use Rattle.dim_vm.proofs.machine.Machine.tries.Goals as goal

pub returns-in-Tries : goal.returns-in-Tries
returns-in-Tries c = trying_is c.args.self.now.context c.args.step.now c.args.l c.in-Tries.m c.eq.result c.in-Tries.is c.eq.ensures
