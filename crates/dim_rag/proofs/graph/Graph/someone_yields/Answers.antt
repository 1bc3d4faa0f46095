use Rattle.std.proofs.Common.{◌∙◌, sym}
use Rattle.dim_rag.specs.History.{past}
use Rattle.dim_rag.specs.Born.{edge_born}
use Rattle.dim_rag.specs.Starvation.{is_of_yielder}
use Rattle.dim_rag.proofs.Anywhere.{more, met}
use Rattle.dim_rag.proofs.graph.Graph.someone_yields.Goals as goal

pub returns-then-is_of_yielder : goal.returns-then-is_of_yielder
returns-then-is_of_yielder c =
    let h = past c.args.self.now.entries in
    sym (met (λ p. is_of_yielder h (edge_born h p)) c.args.births.now c.loop-i.i c.at.result c.at.ensures (sym c.is_of_yielder.ensures ∙ c.if-is_of_yielder.true))

pub loop-i-preserved : goal.loop-i-preserved
loop-i-preserved c =
    let h = past c.args.self.now.entries in
    more (λ p. is_of_yielder h (edge_born h p)) c.args.births.now c.loop-i.i c.at.result c.at.ensures (sym c.is_of_yielder.ensures ∙ c.if-is_of_yielder.false) c.loop-i.invariant
