use Rattle.std.proofs.Common.{◌≡◌, ◌++◌}
use Rattle.std.specs.String.{string_bytes}
use Rattle.dim_picture.specs.Page.{lock_keys}
use Rattle.dim_picture.proofs.page.put_lock_keys.Given as goal

abbrev pub invariant-loop-l : goal.invariant-loop-l
invariant-loop-l l = string_bytes l.text ≡ string_bytes l.fn.text ++ lock_keys l.program l.frame l.l
