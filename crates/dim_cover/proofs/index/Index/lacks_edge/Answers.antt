use Rattle.std.proofs.Common.{◌++◌, ◌∷◌, [], ◌∙◌, ap, sym, List}
use Rattle.dim_rag.specs.declared.entry.Edge.{Edge}
use Rattle.dim_cover.specs.Index.{agreeing}
use Rattle.dim_cover.proofs.Lacking.{lacking}
use Rattle.dim_cover.proofs.index.Index.lacks_edge.Goals as goal

pub loop-i-init : goal.loop-i-init
loop-i-init c = tt

pub returns-then-none_agrees : goal.returns-then-none_agrees
returns-then-none_agrees c = λ t.
    let sig = c.args.sig.now in
    let es : List Edge = c.args.self.now.edges ++ c.args.new_edge.now ∷ [] in
    lacking es c.args.new_edge.now.birth sig c.loop-i.i c.stack.result.now c.stack.ensures
    (ap (λ d. agreeing d c.stack.result.now es) (sym c.depth.ensures.depth) ∙ c.none_agrees.ensures c.if-none_agrees.true)

pub loop-i-preserved : goal.loop-i-preserved
loop-i-preserved c = tt
