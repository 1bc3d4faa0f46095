use Rattle.dim_asm.specs.Printing.{names_in, HasWidth}
use Rattle.dim_asm.proofs.Printed.{function_grown, one_more}
use Rattle.dim_asm.proofs.spelling.put_func.Goals as goal

pub loop-op-preserved : goal.loop-op-preserved
loop-op-preserved c =
    let ops = c.deref-op-items.result.now in
    let i = c.loop-op.op-index in
    record {
      text = function_grown (names_in c.args.program.now) c.args.func.now ops i _ _ _ _ c.loop-op-test.true c.loop-op.invariant.text c.in_ok-put_op.ensures.line;
      width = one_more HasWidth ops i _ c.loop-op-test.true c.loop-op.invariant.width c.in_ok-put_op.ensures.width;
    }
