use Rattle.std.proofs.Common.{inl, arith}
use Rattle.dim_rag.specs.History.{past}
use Rattle.dim_rag.proofs.Ranges.{allow_below}
use Rattle.dim_rag.proofs.Born.{edge_on}
use Rattle.dim_rag.proofs.ByBirth.{only_one}
use Rattle.dim_rag.proofs.graph.Graph.any_allow_born.Goals as goal

pub returns-in-Some-clause-each : goal.returns-in-Some-clause-each
returns-in-Some-clause-each c = λ t l e q b.
    let h = past c.args.self.now.entries in
    only_one c.args.birth h c.in-Some.e c.in-Some.ensures.some e ((edge_on t l h e (inl q)).2, b)

pub returns-clause-each : goal.returns-clause-each
returns-clause-each c = λ t l e q b.
    let below = (allow_below c.args.self.now.threads c.args.self.now.locks t l (past c.args.self.now.entries) e c.locks-in_range.ensures.in_range q).0 in
    absurd (c.loop-t.invariant t l e (omega (arith, below, c.loop-t-test.false, c.threads-t-end.ensures.threads)) q b)
