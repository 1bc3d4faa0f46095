use Rattle.dim_rag.proofs.Running.{run_law}
use Rattle.dim_rag.proofs.laws.run_law.Goals as goal

pub returns : goal.returns
returns c = run_law
