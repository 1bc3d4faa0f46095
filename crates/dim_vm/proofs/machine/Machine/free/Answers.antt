use Rattle.dim_vm.proofs.Asks.{may_free}
use Rattle.dim_vm.proofs.Turns.{turned_free}
use Rattle.dim_vm.proofs.machine.Machine.free.Goals as goal

pub release-requires-clause-may : goal.release-requires-clause-may
release-requires-clause-may g c = may_free _ _ _ c.args.l c.args.drops c.requires.faces

pub returns-clause-turned : goal.returns-clause-turned
returns-clause-turned g c = turned_free _ _ _ _ _ c.args.l c.args.drops _ _ c.requires.faces c.release.ensures.value c.release.ensures.seen
