use Rattle.std.proofs.Common.{◌≡◌}
use Rattle.std.specs.Prelude.{None}
use Rattle.dim_rag.specs.History.{past}
use Rattle.dim_rag.specs.Waits.{waits}
use Rattle.dim_rag.specs.FirstFailing.{first_failing}
use Rattle.dim_rag.specs.Certificate.{held_at, passes_at}
use Rattle.dim_rag.proofs.graph.Graph.is_cycle.Given as goal

-- each position so far passes
abbrev pub invariant-loop-i : goal.invariant-loop-i
invariant-loop-i l = first_failing (passes_at (held_at l.self.threads l.self.locks (past l.self.entries)) (waits l.self.threads (past l.self.entries)) l.births) l.i ≡ None
