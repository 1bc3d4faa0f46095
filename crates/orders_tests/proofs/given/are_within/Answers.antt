use Rattle.std.proofs.Common.{subst}
use Rattle.std.specs.List.{All}
use Rattle.std.proofs.lemmas.List.{take_all}
use Rattle.std.proofs.lemmas.List.Elements.{All-more}
use Rattle.dim_log.specs.declared.log.Event.TheVariants.{Lock}
use Rattle.dim_orders.specs.Own.{IsWithin}
use Rattle.orders_tests.proofs.given.are_within.Goals as goal

pub loop-event-preserved : goal.loop-event-preserved
loop-event-preserved c =
    All-more (IsWithin c.args.threads) c.args.events.now c.loop-event.event-index (Lock 0 0 0) c.loop-event-test.true c.loop-event.invariant
    (c.is_within.ensures c.if-not-is_within.false)

pub returns : goal.returns
returns c = λ _.
    subst (All (IsWithin c.args.threads)) (take_all c.loop-event.event-index c.args.events.now c.loop-event-test.false) c.loop-event.invariant
