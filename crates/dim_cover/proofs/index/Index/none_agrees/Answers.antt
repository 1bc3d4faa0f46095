use Rattle.std.proofs.Common.{◌∙◌, sym}
use Rattle.std.proofs.lemmas.Bool.{not-true}
use Rattle.dim_cover.proofs.Fronts.{none_agree}
use Rattle.dim_cover.proofs.index.Index.none_agrees.Goals as goal

pub returns-then-none_near : goal.returns-then-none_near
returns-then-none_near c = λ t.
    none_agree c.args.depth c.args.stack.now c.args.self.now.edges c.args.new_edge.now (c.none_near.ensures c.if-none_near.true) (sym c.agree.ensures ∙ not-true c.agree.result t)
