use Rattle.std.proofs.Common.{◌≡◌, take}
use Rattle.std.specs.List.{flat_map}
use Rattle.dim_orders.specs.Own.{row}
use Rattle.dim_orders.proofs.keeping.joined.Given as goal

abbrev pub invariant-loop-thread : goal.invariant-loop-thread
invariant-loop-thread l =
    l.operations.items ≡ flat_map (row l.kept) (take l.thread-index l.line)
