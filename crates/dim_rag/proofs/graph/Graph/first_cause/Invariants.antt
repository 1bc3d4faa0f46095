use Rattle.dim_rag.specs.History.{past}
use Rattle.dim_rag.specs.Stuck.{edges_in}
use Rattle.dim_rag.proofs.Causes.{GoesOn}
use Rattle.dim_rag.proofs.graph.Graph.first_cause.Given as goal

abbrev pub invariant-loop-i : goal.invariant-loop-i
invariant-loop-i l = GoesOn (edges_in l.set l.self.threads l.self.locks (past l.self.entries)) l.place l.births l.i l.first
