use Rattle.std.proofs.Common.{length, sym, rules}
use Rattle.dim_signature.proofs.Numbers.{belongs_new}
use Rattle.dim_signature.proofs.order.search.Goals as goal

pub returns-then-are_last-clause-number : goal.returns-then-are_last-clause-number
returns-then-are_last-clause-number c =
    sym (belongs_new c.args.list.now c.args.order.now c.requires c.args.stacks.now (length c.args.order.now) (c.are_last.ensures (search rules)))
