use Rattle.std.proofs.Common.{inr, arith}
use Rattle.dim_rag.specs.History.{past}
use Rattle.dim_rag.proofs.Ranges.{hold_below}
use Rattle.dim_rag.proofs.Born.{edge_on}
use Rattle.dim_rag.proofs.ByBirth.{only_one}
use Rattle.dim_rag.proofs.graph.Graph.any_hold_born.Goals as goal

pub returns-in-Some-clause-each : goal.returns-in-Some-clause-each
returns-in-Some-clause-each c = λ t l e q b.
    let h = past c.args.self.now.entries in
    only_one c.args.birth h c.in-Some.e c.in-Some.ensures.some e ((edge_on t l h e (inr q)).2, b)

pub returns-clause-each : goal.returns-clause-each
returns-clause-each c = λ t l e q b.
    let below = (hold_below c.args.self.now.threads c.args.self.now.locks t l (past c.args.self.now.entries) e c.locks-l-end.ensures.in_range q).1 in
    absurd (c.loop-l.invariant t l e (omega (arith, below, c.loop-l-test.false, c.locks-l-end.ensures.locks)) q b)
