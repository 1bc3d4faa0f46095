use Rattle.dim_picture.proofs.Ranged.{range_law}
use Rattle.dim_picture.proofs.laws.range_law.Goals as goal

pub returns : goal.returns
returns c = range_law
