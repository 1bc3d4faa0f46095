use Rattle.std.proofs.Common.{◌≡◌, ◌++◌, map, take, drop}
use Rattle.dim_merge.specs.Numbered.{with_yields}
use Rattle.dim_merge.proofs.parts.add_yields.Given as goal

-- those before are changed, and those behind are as they were
abbrev pub invariant-loop-i : goal.invariant-loop-i
invariant-loop-i l = l.catalogue.sigs ≡ map (with_yields l.others.sigs) (take l.i l.fn.catalogue.sigs) ++ drop l.i l.fn.catalogue.sigs
