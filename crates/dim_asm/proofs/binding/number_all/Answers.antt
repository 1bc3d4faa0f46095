use Rattle.dim_asm.specs.Bound.{numbered}
use Rattle.dim_asm.proofs.BoundLemmas.{one_more}
use Rattle.dim_asm.proofs.binding.number_all.Goals as goal

pub loop-func-preserved : goal.loop-func-preserved
loop-func-preserved c =
    let i = c.loop-func.func-index in
    let more = one_more (numbered c.args.names.now) c.loop-func.funcs c.args.funcs.now i c.func-item.result c.take_number.new.self c.loop-func-test.true c.take_number.ensures c.loop-func.invariant.done c.loop-func.invariant.left in
    record { done = more.0; left = more.1 }
