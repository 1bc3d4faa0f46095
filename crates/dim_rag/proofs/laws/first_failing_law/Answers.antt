use Rattle.dim_rag.proofs.FirstFailing.{first_failing_law}
use Rattle.dim_rag.proofs.laws.first_failing_law.Goals as goal

pub returns : goal.returns
returns c = first_failing_law
