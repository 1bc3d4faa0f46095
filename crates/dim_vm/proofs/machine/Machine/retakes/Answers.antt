use Rattle.dim_vm.proofs.Following.{retaking_is}
use Rattle.dim_vm.proofs.machine.Machine.retakes.Goals as goal

pub returns-in-Retakes : goal.returns-in-Retakes
returns-in-Retakes c = retaking_is c.args.self.now.context c.args.step.now c.args.l c.in-Retakes.m c.eq.result c.in-Retakes.drops c.in-Retakes.is c.eq.ensures
