use Rattle.dim_vm.proofs.OwnStacks.{asked_law}
use Rattle.dim_vm.proofs.NamedFrames.{named_law}
use Rattle.dim_vm.proofs.laws.stacks_law.Goals as goal

pub returns-clause-asked : goal.returns-clause-asked
returns-clause-asked c = asked_law

pub returns-clause-named : goal.returns-clause-named
returns-clause-named c = named_law
