use Rattle.std.proofs.Common.{ℕ, ◌<◌, get_or}
use Rattle.std.specs.Prelude.{All}
use Rattle.dim_signature.specs.Sig.{Sig}
use Rattle.dim_stack.specs.Names.{IsNamedBy}
use Rattle.transfers.proofs.learning.are_spelled.Given as goal

abbrev pub invariant-loop-i : goal.invariant-loop-i
invariant-loop-i l = record {
  named : (k : ℕ) (d : Sig) → k < l.i → All (IsNamedBy l.names) (get_or l.catalogue.sigs k d).stacks;
}
