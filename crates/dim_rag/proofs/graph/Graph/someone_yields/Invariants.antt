use Rattle.std.proofs.Common.{◌≡◌, false, take}
use Rattle.dim_rag.specs.History.{past}
use Rattle.dim_rag.specs.Starvation.{someone_yields}
use Rattle.dim_rag.proofs.graph.Graph.someone_yields.Given as goal

-- no owner of the edges so far yields
abbrev pub invariant-loop-i : goal.invariant-loop-i
invariant-loop-i l = someone_yields (past l.self.entries) (take l.i l.births) ≡ false
