use Rattle.dim_vm.proofs.Stands.{state_led, mode_own, holds_led}
use Rattle.dim_vm.proofs.laws.own_entries_law.Goals as goal

pub returns : goal.returns
returns c = record { state = state_led; mode_is = mode_own; holds = λ p t fuel own l w low. holds_led p t fuel own w l low }
