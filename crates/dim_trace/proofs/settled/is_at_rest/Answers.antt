use Rattle.std.proofs.Common.{ℕ, ◌<◌, ◌⊎◌, subst}
use Rattle.dim_rag.specs.History.{past}
use Rattle.dim_rag.specs.Tables.{Replay}
use Rattle.dim_gate.specs.Settled.{HasEnded, IsWaiting}
use Rattle.dim_trace.proofs.settled.is_at_rest.Goals as goal

pub returns-then-are_at_rest-clause-rest : goal.returns-then-are_at_rest-clause-rest
returns-then-are_at_rest-clause-rest c = (
  λ q. (
    subst (λ (x : Replay). (t : ℕ) → t < x.threads → HasEnded t (past x.entries) ⊎ IsWaiting x.threads t (past x.entries)) c.graph.ensures.graph (c.are_at_rest.ensures.0 c.if-are_at_rest.true),
    c.are_known.ensures.0 q,
  ),
  λ s. c.are_known.ensures.1 s.1,
)
