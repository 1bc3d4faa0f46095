use Rattle.std.proofs.Common.{◌≡◌, ℕ, ◌<◌, true}
use Rattle.std.specs.Prelude.{Some, slice_get}
use Rattle.dim_stack.specs.declared.Frame.{Frame}
use Rattle.dim_rag.specs.Born.{In}
use Rattle.dim_signature.specs.Sig.{Sig}
use Rattle.dim_tune.specs.Innermost.{IsFiled, filed}
use Rattle.dim_tune.proofs.innermost.Innermost.of.Given as goal

-- those before this one are filed
abbrev pub invariant-loop-i : goal.invariant-loop-i
invariant-loop-i l = record {
  each : (k : ℕ) (s : Sig) → k < l.i → slice_get l.loaded.sigs k ≡ Some s → s.on ≡ true → IsFiled l.files k s.stacks;
  only : (f : Frame) (n : ℕ) → In n (filed l.files f) → n < l.i;
}
