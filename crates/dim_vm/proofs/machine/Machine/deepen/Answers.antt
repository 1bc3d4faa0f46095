use Rattle.dim_vm.proofs.Asks.{may_retake, has_retaken}
use Rattle.dim_vm.proofs.Turns.{turned_retake}
use Rattle.dim_vm.proofs.machine.Machine.deepen.Goals as goal

pub retake-requires-clause-may : goal.retake-requires-clause-may
retake-requires-clause-may g c = may_retake _ _ _ c.args.l c.args.drops c.requires.faces

pub retake-requires-clause-holds : goal.retake-requires-clause-holds
retake-requires-clause-holds g c = has_retaken _ _ _ c.args.l c.args.drops c.requires.faces

pub returns-clause-turned : goal.returns-clause-turned
returns-clause-turned g c = turned_retake _ _ _ _ _ c.args.l c.args.drops _ _ c.requires.faces c.retake.ensures.value c.retake.ensures.seen
