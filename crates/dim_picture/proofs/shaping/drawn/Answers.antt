use Rattle.std.proofs.Common.{◌∙◌, ap, sym, subst, length, arith}
use Rattle.std.proofs.lemmas.List.{length-reverse}
use Rattle.dim_rag.specs.History.{past}
use Rattle.dim_picture.specs.Places.{AreShapes}
use Rattle.dim_picture.specs.Shapes.{shapes_of}
use Rattle.dim_picture.proofs.Noted.{marks_length}
use Rattle.dim_picture.proofs.shaping.drawn.Goals as goal

pub mark_all-requires : goal.mark_all-requires
mark_all-requires c =
    let p = c.args.program.now in
    let t = c.args.trace.now in
    record {
      told = c.told_law.ensures p c.args.history.now.catalogue.sigs t.depth t.fuel t.entries c.requires.executes;
      few = omega (arith, c.requires.short);
    }

pub shapes_of-requires : goal.shapes_of-requires
shapes_of-requires c =
    let entries = c.args.trace.now.entries in
    let long = ap length (c.deref.ensures.value ∙ c.in_ok-marks.ensures.marks) in
    let count = marks_length (past entries) in
    let same = length-reverse entries in
    omega (arith, long, count, same, c.requires.short)

pub returns : goal.returns
returns c =
    let made = c.in_ok-shapes.ensures ∙ ap shapes_of (c.deref.ensures.value ∙ c.in_ok-marks.ensures.marks) in
    record {
      shapes = made;
      places = subst (AreShapes c.args.trace.now.entries) (sym made) (c.shapes_law.ensures c.args.trace.now.entries);
      outcome = c.in_ok-marks.ensures.outcome;
    }
