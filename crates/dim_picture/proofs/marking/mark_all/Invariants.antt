use Rattle.dim_asm.specs.Code.{thread_count, lock_count}
use Rattle.dim_picture.proofs.Passing.{IsSoFar}
use Rattle.dim_picture.proofs.marking.mark_all.Given as goal

abbrev pub invariant-loop-place : goal.invariant-loop-place
invariant-loop-place l = IsSoFar (thread_count l.program) (lock_count l.program) l.trace.entries l.place l.graph l.marks.items
