use Rattle.std.proofs.Common.{sym, ◌∙◌, subst, ap}
use Rattle.std.proofs.lemmas.List.{length-reverse}
use Rattle.dim_rag.specs.declared.graph.row.Row.{Row}
use Rattle.dim_rag.specs.History.{past}
use Rattle.dim_rag.specs.Rows.{IsRow, wished_in}
use Rattle.dim_rag.proofs.Wished.{wished}
use Rattle.dim_rag.proofs.graph.Graph.wished.Goals as goal

pub returns : goal.returns
returns c =
    let es = c.self.inside.told in
    let row : IsRow c.args.t.0 c.index.result.now (past es) =
    subst (λ (r : Row). IsRow c.args.t.0 r (past es)) (sym c.index.ensures)
    (c.self.invariant.each_row c.args.t.0 c.index.result.now (rw (← c.self.view_is) at c.requires.in_range)) in
    c.wished_edge.ensures
    ∙ ap (λ n. wished_in c.args.t n c.index.result.now.mode c.index.result.now.stack) (c.len-place.ensures ∙ sym (length-reverse es))
    ∙ rw (← c.self.view_is) (wished c.args.t c.index.result.now (past es) row (rw (← c.self.view_is) at c.requires.yields))
