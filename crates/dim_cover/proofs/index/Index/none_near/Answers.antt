use Rattle.std.proofs.Common.{◌≡◌, ◌∙◌, List, ap, arith, sym}
use Rattle.std.proofs.lemmas.Bool.{eqb-true}
use Rattle.dim_rag.specs.declared.entry.Edge.{Edge}
use Rattle.dim_cover.specs.Index.{Edges, agreeing, counted, edges_in, front, pair}
use Rattle.dim_cover.proofs.Fronts.{count_at, none_by_front, none_by_pair}
use Rattle.dim_cover.proofs.index.Index.none_near.Goals as goal

pub returns-then-depth-lt2 : goal.returns-then-depth-lt2
returns-then-depth-lt2 c = λ t.
    let i = c.self.inside in
    let es : List Edge = edges_in i.edges.items i.used.items in
    let s = c.args.stack.now in
    let none : counted front (front s) es ≡ 0 =
    ap (λ b. counted front b es) (sym c.front_of.ensures.bucket)
    ∙ sym (count_at front i.fronts.items es c.self.invariant.2 c.front_of.result c.front_of.ensures.low c.index.result.now c.index.ensures)
    ∙ eqb-true c.index.result.now 0 t in
    ap (λ (x : Edges). agreeing c.args.depth s x.edges) (sym c.self.view_is) ∙ none_by_front c.args.depth s es c.requires.low none

pub returns-else-depth-lt2 : goal.returns-else-depth-lt2
returns-else-depth-lt2 c = λ t.
    let i = c.self.inside in
    let es : List Edge = edges_in i.edges.items i.used.items in
    let s = c.args.stack.now in
    let none : counted pair (pair s) es ≡ 0 =
    ap (λ b. counted pair b es) (sym c.pair_of.ensures.bucket)
    ∙ sym (count_at pair i.pairs.items es c.self.invariant.4 c.pair_of.result c.pair_of.ensures.low c.index-else-depth-lt2.result.now c.index-else-depth-lt2.ensures)
    ∙ eqb-true c.index-else-depth-lt2.result.now 0 t in
    ap (λ (x : Edges). agreeing c.args.depth s x.edges) (sym c.self.view_is) ∙ none_by_pair c.args.depth s es (omega (arith, c.if-depth-lt2.false)) none
