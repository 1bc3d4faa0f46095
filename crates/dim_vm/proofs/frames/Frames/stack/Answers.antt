use Rattle.std.proofs.Common.{◌++◌, ◌∷◌, [], List, ap, sym, ◌∙◌}
use Rattle.dim_stack.specs.declared.Frame.{Frame}
use Rattle.dim_vm.specs.Frames.{stack_of}
use Rattle.dim_vm.proofs.Stacks.{one_more}
use Rattle.dim_vm.proofs.frames.Frames.stack.Goals as goal

pub loop-i-preserved : goal.loop-i-preserved
loop-i-preserved c =
    c.push.ensures
    ∙ ap (λ (x : List Frame). x ++ c.frame-in-loop-i.result ∷ []) c.loop-i.invariant
    ∙ sym (one_more (stack_of c.args.program.now c.args.self.now) c.loop-i.i c.frame-in-loop-i.result c.frame-in-loop-i.ensures)
