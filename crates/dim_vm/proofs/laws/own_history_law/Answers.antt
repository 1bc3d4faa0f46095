use Rattle.dim_vm.proofs.OwnModes.{own_mode}
use Rattle.dim_vm.proofs.OwnHolds.{own_holds, own_wish}
use Rattle.dim_vm.proofs.laws.own_history_law.Goals as goal

pub returns : goal.returns
returns c = record { mode_is = own_mode; holds = own_holds; wish = own_wish }
