use Rattle.std.proofs.Common.{ap, ◌∙◌}
use Rattle.dim_vm.specs.Configuration.{start}
use Rattle.dim_transcribe.proofs.Followed.{begins}
use Rattle.dim_transcribe.proofs.standing.starting.Goals as goal

pub returns : goal.returns
returns c = begins c.args.program.now c.args.t c.new.result (c.new.ensures.value ∙ ap (start c.args.program.now c.args.t) c.units.ensures)
