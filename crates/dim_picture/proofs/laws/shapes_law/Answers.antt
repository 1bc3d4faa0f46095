use Rattle.dim_picture.proofs.Placed.{shapes_law}
use Rattle.dim_picture.proofs.laws.shapes_law.Goals as goal

pub returns : goal.returns
returns c = shapes_law
