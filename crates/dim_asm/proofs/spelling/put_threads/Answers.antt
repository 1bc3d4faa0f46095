use Rattle.std.specs.Prelude.{FitsSigned}
use Rattle.std.specs.Int.{w64}
use Rattle.dim_asm.specs.declared.start.Start.{Start}
use Rattle.dim_asm.specs.Printing.{names_in}
use Rattle.dim_asm.proofs.Printed.{threads_grown, one_more}
use Rattle.dim_asm.proofs.spelling.put_threads.Goals as goal

pub loop-start-preserved : goal.loop-start-preserved
loop-start-preserved c =
    let threads = c.deref-start-items.result.now in
    let i = c.loop-start.start-index in
    record {
      text = threads_grown (names_in c.args.program.now) threads i _ _ _ _ c.loop-start-test.true c.loop-start.invariant.text c.in_ok-put_thread.ensures.line;
      width = one_more (λ (s : Start). FitsSigned w64 s.argument) threads i _ c.loop-start-test.true c.loop-start.invariant.width c.in_ok-put_thread.ensures.width;
    }
