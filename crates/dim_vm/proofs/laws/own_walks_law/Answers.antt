use Rattle.dim_vm.proofs.OwnWalks.{own_walks}
use Rattle.dim_vm.proofs.laws.own_walks_law.Goals as goal

pub returns : goal.returns
returns c = own_walks
