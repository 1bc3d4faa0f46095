use Rattle.dim_rag.proofs.Starving.{no_cycle_law}
use Rattle.dim_rag.proofs.laws.no_cycle_law.Goals as goal

pub returns : goal.returns
returns c = no_cycle_law
