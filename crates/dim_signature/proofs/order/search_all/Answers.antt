use Rattle.std.proofs.Common.{sym, ◌∙◌, arith}
use Rattle.dim_signature.proofs.Ordered.{stacks_same}
use Rattle.dim_signature.proofs.Placed.{below_more, above_more}
use Rattle.dim_signature.proofs.Numbers.{number_found, belongs_new}
use Rattle.dim_signature.proofs.order.search_all.Goals as goal

pub loop-low-preserved-in-Less : goal.loop-low-preserved-in-Less
loop-low-preserved-in-Less c = record {
  ordered = omega arith;
  within = c.loop-low.invariant.within;
  below = below_more c.args.list.now c.args.order.now c.requires c.args.stacks.now _ (omega arith) (sym c.compare_at.ensures ∙ c.in-Less.is);
  above = c.loop-low.invariant.above;
}

pub returns-in-Equal-clause-number : goal.returns-in-Equal-clause-number
returns-in-Equal-clause-number c =
    sym (number_found c.args.list.now c.args.order.now c.requires c.args.stacks.now _ (c.requires.within _ (omega arith)) (stacks_same _ _ (sym c.compare_at.ensures ∙ c.in-Equal.is)))

pub loop-low-preserved : goal.loop-low-preserved
loop-low-preserved c = record {
  ordered = omega arith;
  within = omega arith;
  below = c.loop-low.invariant.below;
  above = above_more c.args.list.now c.args.order.now c.requires c.args.stacks.now _ (omega arith) (sym c.compare_at.ensures ∙ c.in-Greater.is);
}

pub returns-clause-number : goal.returns-clause-number
returns-clause-number c =
    sym (belongs_new c.args.list.now c.args.order.now c.requires c.args.stacks.now c.loop-low.low record {
      within = omega arith;
      below = c.loop-low.invariant.below;
      above = λ k low high. c.loop-low.invariant.above k (omega arith) high;
    })
