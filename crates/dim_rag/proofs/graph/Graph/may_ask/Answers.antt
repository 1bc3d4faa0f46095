use Rattle.std.proofs.Common.{sym, ◌∙◌, subst}
use Rattle.dim_rag.specs.declared.graph.row.Row.{Row}
use Rattle.dim_rag.specs.History.{past}
use Rattle.dim_rag.specs.Rows.{IsRow}
use Rattle.dim_rag.proofs.Asks.{ready_row, row_ready}
use Rattle.dim_rag.proofs.graph.Graph.may_ask.Goals as goal

row_is : (c : goal.After-may_ask) → IsRow c.args.t.0 c.index.result.now (past c.self.inside.told)
row_is c =
    subst (λ (r : Row). IsRow c.args.t.0 r (past c.self.inside.told)) (sym c.index.ensures)
    (c.self.invariant.each_row c.args.t.0 c.index.result.now (rw (← c.self.view_is) at c.requires))

pub returns-clause-ready : goal.returns-clause-ready
returns-clause-ready c = λ q.
    rw (← c.self.view_is) (ready_row c.args.t.0 c.args.l c.args.stack.now c.index.result.now (past c.self.inside.told) (row_is c) (sym c.may_ask.ensures ∙ q))

pub returns-clause-always : goal.returns-clause-always
returns-clause-always c = λ k.
    c.may_ask.ensures ∙ row_ready c.args.t.0 c.args.l c.args.stack.now c.index.result.now (past c.self.inside.told) (row_is c) (rw (← c.self.view_is) at k)
