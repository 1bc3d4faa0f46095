use Rattle.dim_stack.proofs.NumberLemmas.{found, missing, own}
use Rattle.dim_stack.proofs.name_laws.name_number_law.Goals as goal

pub returns-clause-found : goal.returns-clause-found
returns-clause-found c = found

pub returns-clause-missing : goal.returns-clause-missing
returns-clause-missing c = missing

pub returns-clause-own : goal.returns-clause-own
returns-clause-own c = own
