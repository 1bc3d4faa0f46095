use Rattle.std.proofs.Common.{◌≡◌, take}
use Rattle.dim_merge.specs.Numbered.{unknown_to}
use Rattle.dim_merge.proofs.parts.unknown_to.Given as goal

abbrev pub invariant-loop-i : goal.invariant-loop-i
invariant-loop-i l = l.unknown.sigs ≡ unknown_to l.known.sigs (take l.i l.others.sigs)
