use Rattle.dim_stack.proofs.Ordered.{less_is, equal_is, greater_is}
use Rattle.dim_stack.proofs.order.compare.Goals as goal

pub returns-clause-less : goal.returns-clause-less
returns-clause-less c = less_is c.args.a.now c.args.b.now _ c.cmp.ensures

pub returns-clause-equal : goal.returns-clause-equal
returns-clause-equal c = equal_is c.args.a.now c.args.b.now _ c.cmp.ensures

pub returns-clause-greater : goal.returns-clause-greater
returns-clause-greater c = greater_is c.args.a.now c.args.b.now _ c.cmp.ensures
