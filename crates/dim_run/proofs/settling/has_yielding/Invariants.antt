use Rattle.std.proofs.Common.{◌≡◌, ◌<◌, ℕ, false}
use Rattle.dim_rag.specs.History.{past, mode}
use Rattle.dim_rag.specs.Stuck.{is_yielding}
use Rattle.dim_run.proofs.settling.has_yielding.Given as goal

-- none before this thread yields
abbrev pub invariant-loop-t : goal.invariant-loop-t
invariant-loop-t l = (u : ℕ) → u < l.t → is_yielding (mode u (past l.graph.entries)) ≡ false
