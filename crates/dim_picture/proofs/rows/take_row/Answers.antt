use Rattle.std.proofs.Common.{ap, arith, length}
use Rattle.dim_picture.proofs.Rowing.{taken_here}
use Rattle.dim_picture.proofs.rows.take_row.Goals as goal

pub returns-then-index-place-clause-slots : goal.returns-then-index-place-clause-slots
returns-then-index-place-clause-slots c =
    let l = c.loop-i in
    let long = ap length l.invariant.same in
    taken_here c.args.t c.args.place c.args.until l.i l.slots.items c.args.slots.now.items c.index_mut.result.now c.index.result.now c.index-then-index-t.result.now l.invariant.same (omega (arith, c.loop-i-test.true, c.len-i-end.ensures, long))
    c.index_mut.ensures.value c.index.ensures c.index-then-index-t.ensures c.if-index-t.true c.if-index-place.true l.invariant.taken
