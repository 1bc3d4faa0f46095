use Rattle.dim_transcribe.proofs.OneMore.{stack_found}
use Rattle.dim_transcribe.proofs.performing.is_stack.Goals as goal

pub returns : goal.returns
returns c = λ e. stack_found c.args.key.now c.args.log.now c.args.o.now.stack c.args.by.now.stack
    c.as_slice-frames.result.now c.in-Some.spots.now c.deref-2.result.now c.innermost-inner.result.now c.deref.result.now
    c.deref-2.ensures.value c.as_slice-frames.ensures c.innermost-inner.ensures c.deref.ensures.value c.in-Some.ensures (c.stand_for.ensures e)
