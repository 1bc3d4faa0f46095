use Rattle.std.proofs.Common.{◌≡◌, ◌<◌, ◌∙◌, sym, subst, get_or}
use Rattle.std.specs.Prelude.{Option, None}
use Rattle.std.proofs.lemmas.List.{get_or_default}
use Rattle.dim_rag.specs.declared.entry.Edge.{Edge}
use Rattle.dim_rag.specs.History.{past}
use Rattle.dim_rag.specs.Rows.{IsHolder, IsCount}
use Rattle.dim_rag.proofs.Counting.{take_is}
use Rattle.dim_rag.proofs.graph.Graph.may_take.Goals as goal

pub returns : goal.returns
returns c =
    let h = past c.self.inside.told in
    let below : c.args.l.0 < c.self.inside.locks = rw (← c.self.view_is) at c.requires in
    let owner : c.index.result.now ≡ get_or c.self.inside.holders.items c.args.l.0 None = c.index.ensures ∙ get_or_default c.self.inside.holders.items c.args.l.0 _ None (rw c.self.invariant.holder_count below) in
    let times : c.index-2.result.now ≡ get_or c.self.inside.counts.items c.args.l.0 0 = c.index-2.ensures ∙ get_or_default c.self.inside.counts.items c.args.l.0 _ 0 (rw c.self.invariant.count_count below) in
    let holds : IsHolder c.args.l.0 c.index.result.now h = subst (λ (o : Option Edge). IsHolder c.args.l.0 o h) (sym owner) (c.self.invariant.each_holder c.args.l.0 None below) in
    let counts : IsCount c.args.l.0 c.index.result.now c.index-2.result.now h =
    subst (λ (o : Option Edge). IsCount c.args.l.0 o c.index-2.result.now h) (sym owner)
    (subst (λ n. IsCount c.args.l.0 (get_or c.self.inside.holders.items c.args.l.0 None) n h) (sym times) (c.self.invariant.each_count c.args.l.0 below)) in
    let is = take_is c.args.t.0 c.args.l.0 c.index.result.now c.index-2.result.now h holds counts in
    rw (← c.self.view_is, c.may_be_taken.ensures) is
