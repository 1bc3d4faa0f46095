use Rattle.dim_rag.specs.History.{past}
use Rattle.dim_rag.specs.Rows.{IsHolder}
use Rattle.dim_rag.proofs.Holders.{holder_read}
use Rattle.dim_rag.proofs.ByBirth.{holder_born, holder_each}
use Rattle.dim_rag.proofs.graph.Graph.hold_born.Goals as goal

is_holder : (c : goal.After-born) → IsHolder c.args.l.0 c.index.result.now (past c.self.inside.told)
is_holder c = holder_read _ c.args.l.0 c.index.result.now (past c.self.inside.told) c.index.ensures (c.self.invariant.each_holder c.args.l.0 c.index.result.now (rw (← c.self.view_is) at c.requires))

pub returns-clause-some : goal.returns-clause-some
returns-clause-some c = rw (c.born.ensures, ← c.self.view_is) (holder_born c.args.l.0 c.args.birth c.index.result.now (past c.self.inside.told) (is_holder c))

pub returns-clause-each : goal.returns-clause-each
returns-clause-each c = rw (c.born.ensures, ← c.self.view_is) (holder_each c.args.l.0 c.args.birth c.index.result.now (past c.self.inside.told) (is_holder c))
