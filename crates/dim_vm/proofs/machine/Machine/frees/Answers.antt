use Rattle.dim_vm.proofs.Following.{freeing_is}
use Rattle.dim_vm.proofs.machine.Machine.frees.Goals as goal

pub returns-in-Frees : goal.returns-in-Frees
returns-in-Frees c = freeing_is c.args.self.now.context c.args.step.now c.args.l c.in-Frees.m c.eq.result c.in-Frees.drops c.in-Frees.is c.eq.ensures
