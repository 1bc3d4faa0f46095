use Rattle.std.proofs.Common.{◌≡◌, ◌++◌, take}
use Rattle.std.specs.List.{flat_map}
use Rattle.std.specs.String.{string_bytes}
use Rattle.dim_picture.specs.Figures.{ring}
use Rattle.dim_picture.specs.Frames.{x_of}
use Rattle.dim_picture.proofs.references.put_rings.Given as goal

abbrev pub invariant-loop-i : goal.invariant-loop-i
invariant-loop-i l = string_bytes l.text ≡ string_bytes l.fn.text ++ flat_map (ring l.frame l.shapes (x_of l.frame l.place)) (take l.i l.births)
