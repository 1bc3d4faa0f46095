use Rattle.std.proofs.Common.{All, take}
use Rattle.dim_orders.specs.Own.{IsWithin}
use Rattle.orders_tests.proofs.given.are_within.Given as goal

abbrev pub invariant-loop-event : goal.invariant-loop-event
invariant-loop-event l = All (IsWithin l.threads) (take l.event-index l.events)
