use Rattle.dim_rag.proofs.Starving.{starved_law}
use Rattle.dim_rag.proofs.laws.starved_law.Goals as goal

pub returns : goal.returns
returns c = starved_law
