use Rattle.dim_gate.proofs.ByPlace.{prefix_law}
use Rattle.dim_gate.proofs.laws.prefix_law.Goals as goal

pub returns : goal.returns
returns c = prefix_law
