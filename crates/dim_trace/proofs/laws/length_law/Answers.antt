use Rattle.dim_trace.proofs.TextLengths.{length_law}
use Rattle.dim_trace.proofs.laws.length_law.Goals as goal

pub returns : goal.returns
returns c = length_law c.entries_law.ensures c.learn_law.ensures
