use Rattle.std.proofs.Common.{◌+◌, ◌∙◌, sym, ap, arith, length, drop}
use Rattle.std.proofs.lemmas.List.{drop_more, drop_all}
use Rattle.dim_picture.specs.Shapes.{shapes_from}
use Rattle.dim_picture.proofs.ShapeSteps.{turn, few_after, longer, shapes}
use Rattle.dim_picture.proofs.shaping.shapes_of.Goals as goal

pub loop-place-preserved : goal.loop-place-preserved
loop-place-preserved c =
    let l = c.loop-place in
    let marks = c.args.marks.now in
    let taken = ap length c.in_ok-row.ensures.slots in
    record {
      rest =
          turn l.slots.items c.row_at.new.slots.items l.shapes.items c.deref.result.now c.push.new.self.items _ marks _ (drop (l.place + 1) marks) c.seat_of.result l.place c.end_of-end.result c.in_ok-row.row
          (drop_more marks l.place _ c.loop-place-test.true) l.invariant.count c.end_of-end.ensures c.deref.ensures.value c.seat_of.ensures c.in_ok-row.ensures.row c.in_ok-row.ensures.slots c.in_ok-push.ensures.items l.invariant.rest;
      count = let n = longer l.shapes.items c.push.new.self.items _ c.in_ok-push.ensures.items in omega (arith, n, l.invariant.count);
      few = let n = few_after l.slots.items (length c.deref.result.now) c.end_of-end.result c.seat_of.result in omega (arith, taken, n, l.invariant.few);
    }

pub returns : goal.returns
returns c =
    let l = c.loop-place in
    sym (ap (shapes_from l.slots.items l.shapes.items) (drop_all l.place c.args.marks.now c.loop-place-test.false)) ∙ l.invariant.rest ∙ sym (shapes c.args.marks.now)
