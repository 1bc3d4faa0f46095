use Rattle.dim_transcribe.proofs.performing.means.Goals as goal

pub returns : goal.returns
returns c = λ e. (c.is_lock.ensures c.if-not-is_lock.false, c.is_stack.ensures e)
