use Rattle.std.proofs.Common.{refl}
use Rattle.dim_vm.proofs.Asks.{may_poll, poll_free}
use Rattle.dim_vm.proofs.machine.Machine.poll.Goals as goal

pub acquire-requires-clause-may : goal.acquire-requires-clause-may
acquire-requires-clause-may g c = may_poll _ _ _ c.args.l c.args.drops _ refl c.requires.faces c.requires.asks

pub want-requires-clause-free : goal.want-requires-clause-free
want-requires-clause-free g c =
    poll_free c.args.program.now c.args.self.now _ (g.D.Door.seen c.args.door.now) _ _ c.args.l c.args.drops c.requires.faces.fits c.requires.faces.thread c.requires.faces.going c.requires.asks c.in-Woken.ensures.reply c.in-Woken.ensures.value c.in-Woken.ensures.seen (c.in-Woken.ensures.woken refl)
