use Rattle.std.proofs.Common.{ℕ, ◌<◌, get_or, List}
use Rattle.dim_stack.specs.declared.Frame.{Frame}
use Rattle.dim_stack.specs.Names.{IsNamedBy}
use Rattle.transfers.proofs.learning.is_spelled.Given as goal

abbrev pub invariant-loop-i : goal.invariant-loop-i
invariant-loop-i l = record {
  named : (k : ℕ) (d : List Frame) → k < l.i → IsNamedBy l.names (get_or l.sig.stacks k d);
}
