use Rattle.std.proofs.Common.{subst, refl, ◌<◌, ◌≤◌}
use Rattle.dim_vm.proofs.Asks.{may_wish, may_spend, free_more}
use Rattle.dim_vm.proofs.Turns.{turned_wish, turned_spent}
use Rattle.dim_vm.proofs.machine.Machine.want.Goals as goal

pub finish-requires-clause-may : goal.finish-requires-clause-may
finish-requires-clause-may g c = may_spend _ _ _ _ _ refl c.requires.faces.fits c.requires.faces.thread c.requires.free

pub returns-then-self-lt-UNITS_OF_REQUEST-clause-turned : goal.returns-then-self-lt-UNITS_OF_REQUEST-clause-turned
returns-then-self-lt-UNITS_OF_REQUEST-clause-turned g c = turned_spent _ _ _ _ _ c.args.l c.args.drops _ _ c.requires.faces (free_more _ _ _ _ c.finish.ensures.woken c.requires.free) (subst (λ x. x.units < 2) c.self.view_is c.if-self-lt-UNITS_OF_REQUEST.true) c.finish.ensures.value c.finish.ensures.seen

pub request-reply-requires-clause-may : goal.request-reply-requires-clause-may
request-reply-requires-clause-may g c = may_wish _ _ _ c.args.l c.args.drops _ c.requires.faces c.requires.free

pub returns-clause-turned : goal.returns-clause-turned
returns-clause-turned g c = turned_wish _ _ _ _ _ c.args.l c.args.drops _ _ c.request-reply.result c.requires.faces (subst (λ x. 2 ≤ x.units) c.self.view_is c.if-self-lt-UNITS_OF_REQUEST.false) c.request-reply.ensures.reply c.request-reply.ensures.value c.request-reply.ensures.seen
