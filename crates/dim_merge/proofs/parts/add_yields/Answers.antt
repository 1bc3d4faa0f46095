use Rattle.std.proofs.Common.{ap, ◌∙◌, arith}
use Rattle.dim_signature.specs.Catalogue.{Contents}
use Rattle.dim_merge.specs.Numbered.{yields_for}
use Rattle.dim_merge.proofs.Counting.{next_counted}
use Rattle.dim_merge.proofs.parts.add_yields.Goals as goal

pub loop-i-preserved : goal.loop-i-preserved
loop-i-preserved c =
    let others = c.args.others.now.sigs in
    next_counted others c.args.catalogue.now.sigs c.loop-i.catalogue.sigs _ c.loop-i.i c.yields_for-more.result c.get.result.now
    (omega (arith, c.loop-i-test.true, c.len-i-end.ensures.len)) c.loop-i.invariant c.get.ensures.value
    (c.yields_for-more.ensures ∙ ap (yields_for others) c.as_slice.ensures.stacks) (ap (λ (k : Contents). k.sigs) c.count.ensures)
