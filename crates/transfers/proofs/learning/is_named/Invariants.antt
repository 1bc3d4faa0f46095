use Rattle.std.proofs.Common.{ℕ, ◌<◌, length, get_or}
use Rattle.dim_stack.specs.declared.Frame.{Frame}
use Rattle.transfers.proofs.learning.is_named.Given as goal

abbrev pub invariant-loop-i : goal.invariant-loop-i
invariant-loop-i l = record {
  named : (k : ℕ) (d : Frame) → k < l.i → (get_or l.stack k d).func < length l.names;
}
