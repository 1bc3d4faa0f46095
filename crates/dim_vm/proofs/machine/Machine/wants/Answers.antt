use Rattle.dim_vm.proofs.Following.{wanting_is}
use Rattle.dim_vm.proofs.machine.Machine.wants.Goals as goal

pub returns-in-Wants : goal.returns-in-Wants
returns-in-Wants c = wanting_is c.args.self.now.context c.args.step.now c.args.l c.in-Wants.m c.eq.result c.in-Wants.drops c.in-Wants.is c.eq.ensures
