use Rattle.std.proofs.Common.{refl}
use Rattle.dim_vm.proofs.Following.{at_lock}
use Rattle.dim_vm.proofs.machine.Machine.is_at_lock.Goals as goal

pub returns-in-Wants : goal.returns-in-Wants
returns-in-Wants c = (λ q. at_lock c.args.self.now.context c.args.step.now c.in-Wants.l c.in-Wants.drops c.in-Wants.is, λ w. refl)
