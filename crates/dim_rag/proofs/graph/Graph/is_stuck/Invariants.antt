use Rattle.std.proofs.Common.{◌≡◌, ℕ, ◌<◌, true}
use Rattle.dim_rag.specs.History.{past}
use Rattle.dim_rag.specs.Stuck.{is_member, is_held}
use Rattle.dim_rag.proofs.graph.Graph.is_stuck.Given as goal

-- each member so far may be one
abbrev pub invariant-loop-t : goal.invariant-loop-t
invariant-loop-t l = (u : ℕ) → u < l.t → is_member l.set u ≡ true → is_held l.self.threads l.self.locks (past l.self.entries) l.set u ≡ true
