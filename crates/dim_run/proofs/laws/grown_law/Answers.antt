use Rattle.dim_run.proofs.Grown.{law}
use Rattle.dim_run.proofs.laws.grown_law.Goals as goal

pub returns : goal.returns
returns c = law
