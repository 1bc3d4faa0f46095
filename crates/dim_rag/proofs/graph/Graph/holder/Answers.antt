use Rattle.std.proofs.Common.{subst, sym, ◌<◌}
use Rattle.std.specs.Prelude.{Option, IfSome}
use Rattle.dim_rag.specs.declared.entry.Edge.{Edge}
use Rattle.dim_rag.specs.History.{past}
use Rattle.dim_rag.proofs.Holders.{held_some, held_none, held_each, holder_read, holder_is}
use Rattle.dim_rag.proofs.graph.Graph.holder.Goals as goal

pub returns-clause-some : goal.returns-clause-some
returns-clause-some c = rw (c.edge.ensures, ← c.self.view_is) (held_some _ _ (past c.self.inside.told) (holder_read _ c.args.l.0 c.index.result.now (past c.self.inside.told) c.index.ensures (c.self.invariant.each_holder c.args.l.0 c.index.result.now (rw (← c.self.view_is) at c.requires))))

pub returns-clause-none : goal.returns-clause-none
returns-clause-none c = rw (c.edge.ensures, ← c.self.view_is) (held_none _ c.index.result.now (past c.self.inside.told) (holder_read _ c.args.l.0 c.index.result.now (past c.self.inside.told) c.index.ensures (c.self.invariant.each_holder c.args.l.0 c.index.result.now (rw (← c.self.view_is) at c.requires))))

pub returns-clause-value : goal.returns-clause-value
returns-clause-value c =
    rw (c.edge.ensures, ← c.self.view_is) (sym (holder_is c.self.inside.threads c.args.l.0 c.index.result.now (past c.self.inside.told)
    (holder_read _ c.args.l.0 c.index.result.now (past c.self.inside.told) c.index.ensures (c.self.invariant.each_holder c.args.l.0 c.index.result.now (rw (← c.self.view_is) at c.requires)))
    (subst (λ (o : Option Edge). IfSome o (λ e. e.t.0 < c.self.inside.threads)) (sym c.index.ensures) (c.self.invariant.holders_in c.args.l.0 c.index.result.now (rw c.self.invariant.holder_count (rw (← c.self.view_is) at c.requires))))))

pub returns-clause-each : goal.returns-clause-each
returns-clause-each c = rw (c.edge.ensures, ← c.self.view_is) (held_each _ _ (past c.self.inside.told) (holder_read _ c.args.l.0 c.index.result.now (past c.self.inside.told) c.index.ensures (c.self.invariant.each_holder c.args.l.0 c.index.result.now (rw (← c.self.view_is) at c.requires))))

pub returns-clause-all : goal.returns-clause-all
returns-clause-all c = rw (c.edge.ensures, ← c.self.view_is) (holder_read _ c.args.l.0 c.index.result.now (past c.self.inside.told) c.index.ensures (c.self.invariant.each_holder c.args.l.0 c.index.result.now (rw (← c.self.view_is) at c.requires)))
