use Rattle.dim_rag.proofs.Allowed.{allowed_law}
use Rattle.dim_rag.proofs.laws.allowed_law.Goals as goal

pub returns : goal.returns
returns c = allowed_law
