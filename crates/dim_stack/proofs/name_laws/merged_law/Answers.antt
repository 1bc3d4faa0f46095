use Rattle.dim_stack.proofs.TableLemmas.{has_own, has_first, has_second}
use Rattle.dim_stack.proofs.name_laws.merged_law.Goals as goal

pub returns-clause-own : goal.returns-clause-own
returns-clause-own c = has_own

pub returns-clause-first : goal.returns-clause-first
returns-clause-first c = has_first

pub returns-clause-second : goal.returns-clause-second
returns-clause-second c = has_second
