use Rattle.dim_rag.proofs.Starving.{step_law}
use Rattle.dim_rag.proofs.laws.step_law.Goals as goal

pub returns : goal.returns
returns c = step_law
