use Rattle.dim_gate.proofs.CycleStacks.{signature_law}
use Rattle.dim_gate.proofs.laws.signature_law.Goals as goal

pub returns : goal.returns
returns c = signature_law
