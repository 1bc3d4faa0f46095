use Rattle.std.proofs.Common.{◌≡◌, []}
use Rattle.dim_rag.specs.History.{past}
use Rattle.dim_rag.specs.Waits.{waits}
use Rattle.dim_rag.specs.Steps.{cycles_below}
use Rattle.dim_monitor.proofs.search.may_have_cycles.Given as goal

-- no cycle begins with a thread before this one
abbrev pub invariant-loop-t : goal.invariant-loop-t
invariant-loop-t l = cycles_below (waits l.graph.threads (past l.graph.entries)) l.graph.threads l.t ≡ []
