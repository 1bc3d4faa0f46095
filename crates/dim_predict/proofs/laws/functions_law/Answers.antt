use Rattle.dim_predict.proofs.Functions.{functions_law}
use Rattle.dim_predict.proofs.laws.functions_law.Goals as goal

pub returns : goal.returns
returns c = functions_law
