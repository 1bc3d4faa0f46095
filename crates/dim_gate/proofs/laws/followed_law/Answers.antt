use Rattle.dim_gate.proofs.Followed.{followed_law}
use Rattle.dim_gate.proofs.laws.followed_law.Goals as goal

pub returns : goal.returns
returns c = followed_law
