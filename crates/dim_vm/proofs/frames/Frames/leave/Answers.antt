use Rattle.std.proofs.Common.{arith, ap, sym, ◌∙◌}
use Rattle.dim_vm.specs.Tops.{rest}
use Rattle.dim_vm.specs.Frames.{entered}
use Rattle.dim_vm.proofs.Callers.{frames_pop, long}
use Rattle.dim_vm.proofs.Tops.{top_is}
use Rattle.dim_vm.proofs.frames.Frames.leave.Goals as goal

pub returns-clause-value : goal.returns-clause-value
returns-clause-value c = sym (ap rest (sym c.self.view_is ∙ top_is c.self.inside.frames c.self.inside.len (omega arith) (omega arith) (entered 0)))

pub returns-clause-at : goal.returns-clause-at
returns-clause-at c = (frames_pop c.self.inside.len c.self.inside.frames (long c.self.invariant c.self.view_is c.requires) c.self.invariant).0

pub invariant_of-self : goal.invariant_of-self
invariant_of-self c = (frames_pop c.self.inside.len c.self.inside.frames (long c.self.invariant c.self.view_is c.requires) c.self.invariant).1
