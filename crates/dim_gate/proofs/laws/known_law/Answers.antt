use Rattle.dim_gate.proofs.ByPlace.{known_law}
use Rattle.dim_gate.proofs.laws.known_law.Goals as goal

pub returns : goal.returns
returns c = known_law
