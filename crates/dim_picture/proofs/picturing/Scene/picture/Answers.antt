use Rattle.std.proofs.Common.{◌≡◌, ℕ, suc, ◌+◌, ◌++◌, ap, ◌∙◌, length, append_assoc, arith}
use Rattle.std.specs.Prelude.{slice_get}
use Rattle.dim_picture.specs.Page.{front, marks, mark_by, back}
use Rattle.dim_picture.proofs.picturing.Scene.picture.Goals as goal

pub loop-place-preserved : goal.loop-place-preserved
loop-place-preserved c =
    let s = c.args.self.now in
    let shapes = s.drawing.now.shapes.items in
    let entries = s.trace.now.entries in
    let q = c.loop-place.place in
    let before = front s.program.now s.frame.now s.drawing.now.outcome (length entries) s.trace.now.fuel s.trace.now.depth in
    let mark = mark_by s.program.now s.names.now s.frame.now shapes q (slice_get shapes q) (slice_get entries q) in
    let drawn = marks s.program.now s.names.now entries s.frame.now shapes in
    let next : suc q ≡ q + 1 = omega arith in
    c.in_ok-put_mark.ensures ∙ ap (λ xs. xs ++ mark) c.loop-place.invariant ∙ append_assoc before (drawn q) mark ∙ ap (λ n. before ++ drawn n) next

pub returns : goal.returns
returns c =
    let s = c.args.self.now in
    let entries = s.trace.now.entries in
    let before = front s.program.now s.frame.now s.drawing.now.outcome (length entries) s.trace.now.fuel s.trace.now.depth in
    let behind = back s.program.now s.frame.now in
    let drawn = marks s.program.now s.names.now entries s.frame.now s.drawing.now.shapes.items in
    let last : c.as_bytes.result.now ≡ behind = c.as_bytes.ensures.value ∙ c.in_ok-back.ensures in
    let all : c.loop-place.place ≡ s.frame.now.to = omega (arith, c.loop-place-test.false, c.loop-place.auto.place-end, c.to-place-end.ensures) in
    c.in_ok-extend_from_slice.ensures.items
    ∙ ap (λ xs. xs ++ c.as_bytes.result.now) c.loop-place.invariant
    ∙ ap (λ xs. (before ++ drawn c.loop-place.place) ++ xs) last
    ∙ append_assoc before (drawn c.loop-place.place) behind
    ∙ ap (λ (n : ℕ). before ++ (drawn n ++ behind)) all
