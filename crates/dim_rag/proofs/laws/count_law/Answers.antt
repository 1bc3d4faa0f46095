use Rattle.dim_rag.proofs.Replayed.{count_law}
use Rattle.dim_rag.proofs.laws.count_law.Goals as goal

pub returns : goal.returns
returns c = count_law
