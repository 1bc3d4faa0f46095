use Rattle.std.proofs.Common.{◌≡◌, ◌≤◌}
use Rattle.dim_rag.specs.History.{past}
use Rattle.dim_rag.specs.Stuck.{holds}
use Rattle.dim_rag.proofs.graph.Graph.holds.Given as goal

abbrev pub invariant-loop-l : goal.invariant-loop-l
invariant-loop-l l = record {
  count : l.count ≡ holds l.t.0 l.l (past l.self.entries);
  few : l.count ≤ l.l;
}
