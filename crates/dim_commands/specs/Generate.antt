-- `generate`.
use Rattle.std.specs.Prelude.{ℕ, List, []}
use Rattle.dim_asm.specs.Bound.{bound, own_names}
use Rattle.dim_inquiry.specs.declared.report.Report.{Report}
use Rattle.dim_inquiry.specs.declared.report.Ending.TheVariants.{Done}
use Rattle.dim_words.specs.Words.{default_settings}
use Rattle.dim_inquiry.specs.Inputs.{Inputs}
use Rattle.dim_commands.specs.Output.{run_report}
use Rattle.dim_inquiry.specs.declared.stop.Place.TheVariants.{Program}
use Rattle.dim_generate.specs.Generated.{generated_text, generated_program}
use Rattle.dim_inquiry.specs.Course.{Course, ◌>>=◌, gives, stores}

-- what its run reads: the program as its text says it, and no signature
unfoldable pub generated_inputs : ℕ → Inputs
generated_inputs n = record { program = bound (own_names (generated_program n)) (generated_program n); sigs = [] }

-- the report on its run with the default settings: however that ended, the command is done
unfoldable pub generated_report : ℕ → Report
generated_report n = record { ending = Done; text = (run_report (generated_inputs n) default_settings).text }

-- `generate`, which fetches nothing
unfoldable pub generate_course : ℕ → List ℕ → Course Report
generate_course n name = do
  stored ← stores Program name (generated_text n)
  gives (generated_report n)
