use Rattle.std.proofs.lemmas.Slice.Eq.{slice_eq-Decides}
use Rattle.dim_stack.proofs.Frames.{Decides-frame}
use Rattle.dim_stack.proofs.order.same_frames.Goals as goal

pub returns-clause-same : goal.returns-clause-same
returns-clause-same c = slice_eq-Decides Decides-frame _ _ _ c.eq.ensures
