use Rattle.dim_run.proofs.Outcomes.{outcome_law}
use Rattle.dim_run.proofs.laws.outcome_law.Goals as goal

pub returns : goal.returns
returns c = outcome_law c.cycles_law.ensures c.waits_law.ensures
