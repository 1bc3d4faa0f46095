use Rattle.std.proofs.Common.{◌≡◌, ◌<◌, ◌-◌, [], length}
use Rattle.dim_rag.specs.History.{past}
use Rattle.dim_rag.specs.Starvation.{step_on}
use Rattle.dim_rag.specs.Steps.{walk}
use Rattle.dim_rag.proofs.Walked.{so_far}
use Rattle.dim_rag.proofs.graph.Graph.cycle_from.Given as goal

-- what is found further on from here is what is found from the first thread
abbrev pub invariant-loop-i : goal.invariant-loop-i
invariant-loop-i l = record {
  size : length l.places ≡ 33;
  within : l.at.0 < l.self.threads;
  same : walk (step_on l.trail l.self.threads l.self.locks (past l.self.entries)) l.first.0 (l.self.threads - l.i) l.at.0 (so_far l.i l.places) ≡ walk (step_on l.trail l.self.threads l.self.locks (past l.self.entries)) l.first.0 l.self.threads l.first.0 [];
}
