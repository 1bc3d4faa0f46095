use Rattle.std.proofs.Common.{ap, ◌∙◌}
use Rattle.dim_signature.specs.Order.{stacks_cmp}
use Rattle.dim_signature.proofs.Placed.{stacks_read}
use Rattle.dim_signature.proofs.order.compare_at.Goals as goal

pub returns : goal.returns
returns c = c.cmp.ensures ∙ ap (λ s. stacks_cmp s c.args.stacks.now) (c.as_slice.ensures.stacks ∙ stacks_read c.args.list.now c.args.order.now c.requires.ordered c.args.place _ c.requires.within c.index-list-order.is)
