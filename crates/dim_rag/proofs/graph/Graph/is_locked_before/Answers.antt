use Rattle.std.proofs.Common.{◌∙◌, ap, sym, arith}
use Rattle.dim_rag.specs.History.{past}
use Rattle.dim_rag.specs.Born.{edge_born}
use Rattle.dim_rag.specs.Starvation.{is_on}
use Rattle.dim_rag.proofs.Anywhere.{more, met_below}
use Rattle.dim_rag.proofs.graph.Graph.is_locked_before.Goals as goal

pub returns-then-is_on : goal.returns-then-is_on
returns-then-is_on c =
    sym (met_below (λ p. is_on c.args.l.0 (edge_born (past c.args.self.now.entries) p)) c.args.births.now c.loop-j.j c.at.result c.at.ensures c.args.i c.loop-j-test.true (omega (arith, c.requires))
    (ap (is_on c.args.l.0) (sym c.edge_born.ensures.value) ∙ sym c.is_on.ensures ∙ c.if-is_on.true))

pub loop-j-preserved : goal.loop-j-preserved
loop-j-preserved c =
    more (λ p. is_on c.args.l.0 (edge_born (past c.args.self.now.entries) p)) c.args.births.now c.loop-j.j c.at.result c.at.ensures
    (ap (is_on c.args.l.0) (sym c.edge_born.ensures.value) ∙ sym c.is_on.ensures ∙ c.if-is_on.false) c.loop-j.invariant
