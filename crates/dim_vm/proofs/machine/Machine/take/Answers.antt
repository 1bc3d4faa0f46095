use Rattle.dim_vm.proofs.Asks.{may_try}
use Rattle.dim_vm.proofs.Turns.{turned_try}
use Rattle.dim_vm.proofs.machine.Machine.take.Goals as goal

pub attempt-reply-requires-clause-may : goal.attempt-reply-requires-clause-may
attempt-reply-requires-clause-may g c = may_try _ _ _ c.args.l c.requires.faces

pub returns-clause-turned : goal.returns-clause-turned
returns-clause-turned g c = turned_try _ _ _ _ _ c.args.l _ _ c.attempt-reply.result c.requires.faces c.attempt-reply.ensures.reply c.attempt-reply.ensures.value c.attempt-reply.ensures.seen
