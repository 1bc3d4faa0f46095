use Rattle.dim_stack.proofs.NumberLemmas.{order}
use Rattle.dim_stack.proofs.name_laws.name_order_law.Goals as goal

pub returns : goal.returns
returns c = order
