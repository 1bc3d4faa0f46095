use Rattle.std.proofs.Common.{◌≡◌, ℕ, ◌<◌, List}
use Rattle.std.specs.Prelude.{Some, slice_get}
use Rattle.dim_stack.specs.declared.Frame.{Frame}
use Rattle.dim_rag.specs.Born.{In}
use Rattle.dim_tune.specs.Innermost.{Gains, filed}
use Rattle.dim_tune.proofs.innermost.file_if_on.Given as goal

-- it is filed by the stacks before this one
abbrev pub invariant-loop-j : goal.invariant-loop-j
invariant-loop-j l = record {
  gains : Gains l.initial.files l.files l.i;
  filed : (k : ℕ) (x : List Frame) (f : Frame) → k < l.j → slice_get l.sig.stacks k ≡ Some x → slice_get x 0 ≡ Some f → In l.i (filed l.files f);
}
