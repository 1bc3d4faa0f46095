use Rattle.std.proofs.Common.{◌≡◌, ◌<◌, ◌∙◌, sym, subst, get_or}
use Rattle.std.specs.Prelude.{Option, None, IfSome}
use Rattle.std.proofs.lemmas.List.{get_or_default}
use Rattle.dim_rag.specs.declared.entry.Edge.{Edge}
use Rattle.dim_rag.specs.History.{past}
use Rattle.dim_rag.specs.Rows.{IsHolder, IsCount}
use Rattle.dim_rag.proofs.Counting.{owner_count, other_count, unheld_count, times_is}
use Rattle.dim_rag.proofs.graph.Graph.count.Goals as goal

module _ (c : goal.After-from) where
  abbrev o : Option Edge
  o = get_or c.self.inside.holders.items c.args.l.0 None

  below : c.args.l.0 < c.self.inside.locks
  below = rw (← c.self.view_is) at c.requires

  holds : IsHolder c.args.l.0 o (past c.self.inside.told)
  holds = c.self.invariant.each_holder c.args.l.0 None below

  counts : IsCount c.args.l.0 o c.index.result.now (past c.self.inside.told)
  counts =
      let read : c.index.result.now ≡ get_or c.self.inside.counts.items c.args.l.0 0 = c.index.ensures ∙ get_or_default c.self.inside.counts.items c.args.l.0 _ 0 (rw c.self.invariant.count_count below) in
      subst (λ n. IsCount c.args.l.0 o n (past c.self.inside.told)) (sym read) (c.self.invariant.each_count c.args.l.0 below)

  owned : IfSome o (λ e. e.t.0 < c.self.inside.threads)
  owned = c.self.invariant.holders_in c.args.l.0 None (rw c.self.invariant.holder_count below)

pub returns-clause-value : goal.returns-clause-value
returns-clause-value c = rw (← c.self.view_is) (c.from.ensures ∙ sym (times_is c.self.inside.threads c.args.l.0 (o c) c.index.result.now (past c.self.inside.told) (holds c) (counts c) (owned c)))

pub returns-clause-owner : goal.returns-clause-owner
returns-clause-owner c = rw (← c.self.view_is) (λ t s. (owner_count c.args.l.0 (o c) c.index.result.now (past c.self.inside.told) (holds c) (counts c) t s).0 ∙ sym c.from.ensures)

pub returns-clause-others : goal.returns-clause-others
returns-clause-others c = rw (← c.self.view_is) (λ t s. other_count c.args.l.0 (o c) c.index.result.now (past c.self.inside.told) (holds c) (counts c) t s)

pub returns-clause-free : goal.returns-clause-free
returns-clause-free c = rw (← c.self.view_is) (λ u. c.from.ensures ∙ unheld_count c.args.l.0 (o c) c.index.result.now (past c.self.inside.told) (holds c) (counts c) u)
