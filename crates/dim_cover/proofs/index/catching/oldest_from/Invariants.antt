use Rattle.dim_rag.specs.History.{past}
use Rattle.dim_cover.specs.Oldest.{IsOldest}
use Rattle.dim_cover.proofs.Seen.{IsSeen}
use Rattle.dim_cover.proofs.index.catching.oldest_from.Given as goal

-- the oldest of the allow edges of the threads so far
abbrev pub invariant-loop-t : goal.invariant-loop-t
invariant-loop-t l = IsOldest (IsSeen (past l.graph.entries) l.t 0) l.from l.oldest

-- and of the hold edges on the locks so far
abbrev pub invariant-loop-l : goal.invariant-loop-l
invariant-loop-l l = IsOldest (IsSeen (past l.graph.entries) l.graph.threads l.l) l.from l.oldest
