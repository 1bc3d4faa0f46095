use Rattle.dim_asm.proofs.BoundLemmas.{kept, numbers, last, own}
use Rattle.dim_asm.proofs.binding.bind_law.Goals as goal

pub returns-clause-kept : goal.returns-clause-kept
returns-clause-kept c = kept

pub returns-clause-numbers : goal.returns-clause-numbers
returns-clause-numbers c = numbers

pub returns-clause-last : goal.returns-clause-last
returns-clause-last c = last

pub returns-clause-own : goal.returns-clause-own
returns-clause-own c = own
