use Rattle.std.proofs.Common.{sym, subst}
use Rattle.dim_rag.specs.Tables.{Replay}
use Rattle.dim_gate.specs.Invariant.{Knows}
use Rattle.dim_gate.proofs.lean_gate.LeanGate.new.Goals as goal

pub invariant_of-result : goal.invariant_of-result
invariant_of-result c = subst (λ (r : Replay). Knows r c.in_ok-knowledge.knowledge) (sym c.in_ok-graph.ensures) c.in_ok-knowledge.ensures.knows
