use Rattle.dim_rag.proofs.Faults.{starvation_fault_law}
use Rattle.dim_rag.proofs.laws.starvation_fault_law.Goals as goal

pub returns : goal.returns
returns c = starvation_fault_law
