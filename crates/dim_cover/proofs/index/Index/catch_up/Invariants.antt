use Rattle.std.proofs.Common.{◌≡◌, ◌+◌, ◌-◌, length}
use Rattle.dim_rag.specs.History.{past}
use Rattle.dim_rag.specs.Born.{all_edges}
use Rattle.dim_cover.proofs.Oldest.{IsCaught}
use Rattle.dim_cover.proofs.index.Index.catch_up.Given as goal

-- the edges that were born before a birth are taken in
abbrev pub invariant-loop-e : goal.invariant-loop-e
invariant-loop-e l = record {
  room : l.self.room ≡ l.graph.threads + l.graph.locks;
  caught : IsCaught (all_edges (past l.graph.entries)) l.self.edges l.from;
}

abbrev pub decreases-loop-e : goal.decreases-loop-e
decreases-loop-e l = length l.graph.entries - l.from
