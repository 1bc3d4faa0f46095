use Rattle.dim_trace.proofs.BothWays.{births_both, stack_both, entry_both}
use Rattle.dim_trace.proofs.laws.words_law.Goals as goal

pub returns : goal.returns
returns c = record { births = births_both; stack = stack_both; entry = entry_both }
