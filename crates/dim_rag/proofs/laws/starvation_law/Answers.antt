use Rattle.dim_rag.proofs.Starving.{starvation_law}
use Rattle.dim_rag.proofs.laws.starvation_law.Goals as goal

pub returns : goal.returns
returns c = starvation_law
