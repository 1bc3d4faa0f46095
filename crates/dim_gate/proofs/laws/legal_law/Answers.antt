use Rattle.dim_gate.proofs.ByPlace.{legal_law}
use Rattle.dim_gate.proofs.laws.legal_law.Goals as goal

pub returns : goal.returns
returns c = legal_law
