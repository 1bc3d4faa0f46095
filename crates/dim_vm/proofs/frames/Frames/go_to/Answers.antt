use Rattle.std.proofs.Common.{arith}
use Rattle.dim_vm.proofs.Callers.{set_newest, frames_set}
use Rattle.dim_vm.proofs.frames.Frames.go_to.Goals as goal

pub returns : goal.returns
returns c = set_newest c.self.inside.frames c.self.inside.len _ (λ f. record f { at = c.args.at }) _ (omega arith) (omega arith) c.self.view_is

pub invariant_of-self : goal.invariant_of-self
invariant_of-self c = frames_set c.self.inside.len c.self.inside.frames _ c.self.invariant
