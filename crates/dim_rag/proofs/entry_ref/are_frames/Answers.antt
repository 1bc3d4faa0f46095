use Rattle.dim_rag.proofs.Same.{stack}
use Rattle.dim_rag.proofs.entry_ref.are_frames.Goals as goal

pub returns : goal.returns
returns c = rw c.eq.ensures (stack c.args.a.now c.args.b.now)
