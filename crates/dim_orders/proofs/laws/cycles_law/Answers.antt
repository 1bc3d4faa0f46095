use Rattle.dim_orders.proofs.KeptLemmas.{cycles}
use Rattle.dim_orders.proofs.laws.cycles_law.Goals as goal

pub returns : goal.returns
returns c = cycles
