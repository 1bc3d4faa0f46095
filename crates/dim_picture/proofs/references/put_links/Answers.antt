use Rattle.std.proofs.Common.{◌∙◌, ◌++◌, ap, List, ℕ}
use Rattle.std.specs.String.{string_bytes}
use Rattle.dim_picture.specs.Figures.{link}
use Rattle.dim_picture.specs.Frames.{x_of}
use Rattle.dim_picture.proofs.Links.{one_more}
use Rattle.dim_picture.proofs.references.put_links.Goals as goal

pub loop-i-preserved : goal.loop-i-preserved
loop-i-preserved c =
    let draws = link c.args.frame.now c.args.shapes.now c.args.place (x_of c.args.frame.now c.args.place) c.args.y in
    c.in_ok-put_link.ensures ∙ ap (λ (t : List ℕ). t ++ draws c.at.result) c.loop-i.invariant
    ∙ one_more draws (string_bytes c.args.text.now) c.args.births.now c.loop-i.i c.at.result c.at.ensures
