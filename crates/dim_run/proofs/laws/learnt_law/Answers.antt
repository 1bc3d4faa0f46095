use Rattle.dim_run.proofs.Learnt.{learnt_law}
use Rattle.dim_run.proofs.laws.learnt_law.Goals as goal

pub returns : goal.returns
returns c = learnt_law
