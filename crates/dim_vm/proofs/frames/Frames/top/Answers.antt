use Rattle.std.proofs.Common.{arith, ap, sym, ◌∙◌}
use Rattle.dim_vm.specs.Frames.{top_frame}
use Rattle.dim_vm.proofs.Tops.{top_is}
use Rattle.dim_vm.proofs.frames.Frames.top.Goals as goal

pub returns : goal.returns
returns c = sym (ap top_frame (sym c.self.view_is ∙ top_is c.self.inside.frames c.self.inside.len (omega arith) (omega arith) _))
