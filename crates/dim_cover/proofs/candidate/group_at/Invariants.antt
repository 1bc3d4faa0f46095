use Rattle.std.proofs.Common.{◌≡◌, drop, take}
use Rattle.dim_cover.specs.Candidates.{group_of}
use Rattle.dim_cover.proofs.Groups.{found_from}
use Rattle.dim_cover.proofs.candidate.group_at.Given as goal

-- the stacks that are left decide
abbrev pub invariant-loop-j : goal.invariant-loop-j
invariant-loop-j l = group_of l.sig.depth l.sig.stacks l.stack ≡ found_from l.sig.depth (take l.sig.depth l.stack) l.j (drop l.j l.sig.stacks)
