use Rattle.std.proofs.Common.{◌≡◌, ◌++◌, take}
use Rattle.dim_merge.proofs.parts.add_all.Given as goal

abbrev pub invariant-loop-i : goal.invariant-loop-i
invariant-loop-i l = l.catalogue.sigs ≡ l.fn.catalogue.sigs ++ take l.i l.others.sigs
