use Rattle.std.proofs.Common.{arith, sym, get_or}
use Rattle.std.proofs.lemmas.Bool.{not-false}
use Rattle.dim_stack.proofs.Exports.{Decides-frame}
use Rattle.dim_vm.specs.Frames.{stack_of}
use Rattle.dim_vm.proofs.Stacks.{same_more}
use Rattle.dim_vm.proofs.frames.Frames.is_stack.Goals as goal

pub loop-i-preserved : goal.loop-i-preserved
loop-i-preserved c =
    same_more (stack_of c.args.program.now c.args.self.now) c.loop-i.i c.frame.result c.frame.ensures c.args.stack.now (record { func = 0; at = 0 }) (omega arith)
    ((Decides-frame (get_or c.args.stack.now c.loop-i.i (record { func = 0; at = 0 })) c.frame.result).0 (not-false _ (sym c.if-ne.ensures))) c.loop-i.invariant
