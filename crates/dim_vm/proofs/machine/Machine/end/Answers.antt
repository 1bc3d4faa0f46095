use Rattle.dim_vm.proofs.Asks.{may_finish}
use Rattle.dim_vm.proofs.Turns.{turned_ends}
use Rattle.dim_vm.proofs.machine.Machine.end.Goals as goal

pub finish-requires-clause-may : goal.finish-requires-clause-may
finish-requires-clause-may g c = may_finish _ _ _ c.args.why c.requires.faces

pub returns-clause-turned : goal.returns-clause-turned
returns-clause-turned g c = turned_ends _ _ _ _ _ c.args.why _ _ c.requires.faces c.finish.ensures.value c.finish.ensures.seen
