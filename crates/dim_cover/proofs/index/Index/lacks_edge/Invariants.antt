use Rattle.std.specs.Prelude.{⊤}
use Rattle.dim_cover.proofs.index.Index.lacks_edge.Given as goal

-- the stacks so far show nothing
abbrev pub invariant-loop-i : goal.invariant-loop-i
invariant-loop-i l = ⊤
