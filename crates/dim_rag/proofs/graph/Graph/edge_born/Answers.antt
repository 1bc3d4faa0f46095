use Rattle.std.proofs.Common.{inl, inr}
use Rattle.dim_rag.specs.History.{past}
use Rattle.dim_rag.proofs.Ranges.{edge_below, born_below}
use Rattle.dim_rag.proofs.ByBirth.{only_one}
use Rattle.dim_rag.proofs.EdgeBorn.{born_told}
use Rattle.dim_rag.proofs.graph.Graph.edge_born.Goals as goal

pub returns-in-Some-clause-each : goal.returns-in-Some-clause-each
returns-in-Some-clause-each c = λ e k b. only_one c.args.birth (past c.args.self.now.entries) c.in-Some.e c.in-Some.ensures.some e (k, b)

pub returns-in-Some-clause-in_range : goal.returns-in-Some-clause-in_range
returns-in-Some-clause-in_range c =
    edge_below c.args.self.now.threads c.args.self.now.locks (past c.args.self.now.entries) c.in-Some.e c.locks-in_range.ensures.in_range c.in-Some.ensures.some.0

pub returns-in-None-clause-in_range : goal.returns-in-None-clause-in_range
returns-in-None-clause-in_range c =
    born_below c.args.self.now.threads c.args.self.now.locks c.args.birth (past c.args.self.now.entries) c.locks-in_range.ensures.in_range c.any_hold_born.result c.any_hold_born.ensures.some

pub returns-in-Some-clause-value : goal.returns-in-Some-clause-value
returns-in-Some-clause-value c =
    let h = past c.args.self.now.entries in
    born_told h c.args.birth _ c.in-Some.ensures.some (λ e k b. only_one c.args.birth h c.in-Some.e c.in-Some.ensures.some e (k, b))

pub returns-in-None-clause-value : goal.returns-in-None-clause-value
returns-in-None-clause-value c =
    born_told (past c.args.self.now.entries) c.args.birth c.any_hold_born.result c.any_hold_born.ensures.some (λ e k b. elim k [
      | inl a ↦ absurd (let q = c.in-None.ensures.each e.t.0 e.l.0 e a b in cc)
      | inr o ↦ c.any_hold_born.ensures.each e.t.0 e.l.0 e o b
    ])
