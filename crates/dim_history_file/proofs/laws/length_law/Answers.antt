use Rattle.dim_history_file.proofs.Lengths.{length_law}
use Rattle.dim_history_file.proofs.laws.length_law.Goals as goal

pub returns : goal.returns
returns c = length_law
