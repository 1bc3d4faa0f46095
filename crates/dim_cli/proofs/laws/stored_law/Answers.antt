use Rattle.dim_cli.proofs.RecheckLemmas.{stored_law}
use Rattle.dim_cli.proofs.laws.stored_law.Goals as goal

pub returns : goal.returns
returns c = stored_law c.verdict_law.ensures.one c.verdict_law.ensures.found
