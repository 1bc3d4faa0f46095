use Rattle.dim_orders.proofs.JoinedLemmas.{sections_joined}
use Rattle.dim_orders.proofs.laws.sections_law.Goals as goal

pub returns : goal.returns
returns c = sections_joined
