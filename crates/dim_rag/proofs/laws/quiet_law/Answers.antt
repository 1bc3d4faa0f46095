use Rattle.dim_rag.proofs.Counting.{quiet_law}
use Rattle.dim_rag.proofs.laws.quiet_law.Goals as goal

pub returns : goal.returns
returns c = quiet_law
