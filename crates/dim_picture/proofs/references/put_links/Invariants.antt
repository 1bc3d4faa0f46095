use Rattle.std.proofs.Common.{◌≡◌, ◌++◌, take}
use Rattle.std.specs.List.{flat_map}
use Rattle.std.specs.String.{string_bytes}
use Rattle.dim_picture.specs.Figures.{link}
use Rattle.dim_picture.specs.Frames.{x_of}
use Rattle.dim_picture.proofs.references.put_links.Given as goal

abbrev pub invariant-loop-i : goal.invariant-loop-i
invariant-loop-i l = string_bytes l.text ≡ string_bytes l.fn.text ++ flat_map (link l.frame l.shapes l.place (x_of l.frame l.place) l.y) (take l.i l.births)
