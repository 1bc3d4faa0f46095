use Rattle.std.proofs.Common.{◌≡◌, ◌++◌, length}
use Rattle.dim_picture.specs.Page.{front, marks}
use Rattle.dim_picture.proofs.picturing.Scene.picture.Given as goal

abbrev pub invariant-loop-place : goal.invariant-loop-place
invariant-loop-place l = l.out.items
    ≡ front l.self.program.now l.self.frame.now l.self.drawing.now.outcome (length l.self.trace.now.entries) l.self.trace.now.fuel l.self.trace.now.depth ++ marks l.self.program.now l.self.names.now l.self.trace.now.entries l.self.frame.now l.self.drawing.now.shapes.items l.place
