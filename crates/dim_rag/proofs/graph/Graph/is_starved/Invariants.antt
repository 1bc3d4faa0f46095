use Rattle.std.proofs.Common.{◌≡◌}
use Rattle.std.specs.Prelude.{None}
use Rattle.dim_rag.specs.History.{past}
use Rattle.dim_rag.specs.FirstFailing.{first_failing}
use Rattle.dim_rag.specs.Starvation.{starves_at}
use Rattle.dim_rag.proofs.graph.Graph.is_starved.Given as goal

-- each position so far passes
abbrev pub invariant-loop-i : goal.invariant-loop-i
invariant-loop-i l = first_failing (starves_at l.self.threads l.self.locks (past l.self.entries) l.births) l.i ≡ None
