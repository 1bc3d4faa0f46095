use Rattle.std.proofs.Common.{◌∙◌, ap, sym}
use Rattle.dim_gate.specs.Known.{stack_of}
use Rattle.dim_gate.proofs.stacks.stack_of.Goals as goal

pub returns : goal.returns
returns c = ap stack_of (sym (sym c.edge_born.ensures.value ∙ c.unwrap.ensures))
