use Rattle.std.proofs.Common.{◌≡◌, false, take}
use Rattle.std.specs.List.{list_any}
use Rattle.dim_rag.specs.History.{past}
use Rattle.dim_rag.specs.Born.{edge_born}
use Rattle.dim_rag.specs.Starvation.{is_on}
use Rattle.dim_rag.proofs.graph.Graph.is_locked_before.Given as goal

-- none of the edges so far is on the lock
abbrev pub invariant-loop-j : goal.invariant-loop-j
invariant-loop-j l = list_any (λ p. is_on l.l.0 (edge_born (past l.self.entries) p)) (take l.j l.births) ≡ false
