use Rattle.dim_rag.proofs.StuckSets.{stale_law}
use Rattle.dim_rag.proofs.laws.stale_law.Goals as goal

pub returns : goal.returns
returns c = stale_law
