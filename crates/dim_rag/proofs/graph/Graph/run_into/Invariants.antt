use Rattle.std.proofs.Common.{◌≡◌, ◌<◌, ◌-◌}
use Rattle.dim_rag.specs.History.{past}
use Rattle.dim_rag.specs.Steps.{run_into}
use Rattle.dim_rag.specs.Starvation.{step}
use Rattle.dim_rag.proofs.graph.Graph.run_into.Given as goal

-- what steps from here run into is what those from the first thread run into
abbrev pub invariant-loop : goal.invariant-loop
invariant-loop l = record {
  within : l.at.0 < l.self.threads;
  same : run_into (step l.self.threads l.self.locks (past l.self.entries)) l.self.threads (l.self.threads - l.counter) l.at.0 ≡ run_into (step l.self.threads l.self.locks (past l.self.entries)) l.self.threads l.self.threads l.fn.t.0;
}
