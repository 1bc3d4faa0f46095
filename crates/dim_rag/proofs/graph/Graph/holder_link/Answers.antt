use Rattle.std.proofs.Common.{◌∙◌, ap, subst, sym, ◌<◌}
use Rattle.std.specs.Prelude.{Option, IfSome, option_map}
use Rattle.dim_rag.specs.declared.entry.Edge.{Edge}
use Rattle.dim_rag.specs.History.{past}
use Rattle.dim_rag.specs.Links.{link_of}
use Rattle.dim_rag.proofs.Holders.{holder_read, holder_is}
use Rattle.dim_rag.proofs.Links.{owner_below}
use Rattle.dim_rag.proofs.graph.Graph.holder_link.Goals as goal

module _ (c : goal.After-link) where
  in_range : IfSome c.index.result.now (λ e. e.t.0 < c.self.inside.threads)
  in_range = subst (λ (o : Option Edge). IfSome o (λ e. e.t.0 < c.self.inside.threads)) (sym c.index.ensures)
      (c.self.invariant.holders_in c.args.l.0 c.index.result.now (rw c.self.invariant.holder_count (rw (← c.self.view_is) at c.requires)))

pub returns-clause-value : goal.returns-clause-value
returns-clause-value c =
    let h = past c.self.inside.told in
    let is_holder = holder_read _ c.args.l.0 c.index.result.now h c.index.ensures (c.self.invariant.each_holder c.args.l.0 c.index.result.now (rw (← c.self.view_is) at c.requires)) in
    rw (← c.self.view_is) (c.link.ensures ∙ ap (option_map link_of) (sym (holder_is c.self.inside.threads c.args.l.0 c.index.result.now h is_holder (in_range c))))

pub returns-clause-thread : goal.returns-clause-thread
returns-clause-thread c = rw (← c.self.view_is, c.link.ensures) (owner_below c.self.inside.threads c.index.result.now (in_range c))
