use Rattle.dim_signature.proofs.Numbers.{found, missing, own}
use Rattle.dim_signature.proofs.catalogue.number_law.Goals as goal

pub returns-clause-found : goal.returns-clause-found
returns-clause-found c = found

pub returns-clause-missing : goal.returns-clause-missing
returns-clause-missing c = missing

pub returns-clause-own : goal.returns-clause-own
returns-clause-own c = own
