use Rattle.std.proofs.Common.{◌≡◌, ◌++◌}
use Rattle.std.specs.String.{string_bytes}
use Rattle.dim_picture.specs.Page.{lanes}
use Rattle.dim_picture.proofs.page.put_lanes.Given as goal

abbrev pub invariant-loop-t : goal.invariant-loop-t
invariant-loop-t l = string_bytes l.text ≡ string_bytes l.fn.text ++ lanes l.program l.frame l.t
