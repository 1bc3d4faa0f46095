use Rattle.std.proofs.Common.{◌∙◌, ap}
use Rattle.dim_commands.specs.Output.{run_report}
use Rattle.dim_inquiry.specs.Inputs.{inputs_of}
use Rattle.dim_commands.proofs.GenerateLemmas.{done_is}
use Rattle.dim_commands.proofs.generate.generated_report.Goals as goal

pub returns : goal.returns
returns c =
    let x = inputs_of c.in_ok-inputs.inputs in
    done_is c.args.n x c.in_ok-report.report c.in_ok-inputs.ensures.inputs (c.in_ok-report.ensures ∙ ap (run_report x) c.default_settings.ensures.settings)
