use Rattle.std.proofs.Common.{◌≡◌, ◌++◌, vec_len}
use Rattle.dim_orders.specs.Sections.{closing, last_stack}
use Rattle.dim_orders.proofs.sections.closed.Given as goal

abbrev pub invariant-loop-hold : goal.invariant-loop-hold
invariant-loop-hold l =
    l.begun.items ++ closing l.stack l.held.items ≡ l.fn.begun.items ++ closing (last_stack l.fn.begun.items) l.fn.held.items

abbrev pub decreases-loop-hold : goal.decreases-loop-hold
decreases-loop-hold l = vec_len l.held
