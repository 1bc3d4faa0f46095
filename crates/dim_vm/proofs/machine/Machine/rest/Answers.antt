use Rattle.std.proofs.Common.{◌∙◌}
use Rattle.dim_vm.proofs.Leads.{rested_here}
use Rattle.dim_vm.proofs.machine.Machine.rest.Goals as goal

pub returns-in_default-step : goal.returns-in_default-step
returns-in_default-step c = rested_here c.args.program.now c.loop.self _ c.step.result c.step.ensures.step c.in_default-step.not-Plain ∙ c.loop.invariant.rests
