-- `run`.
use Rattle.std.specs.Prelude.{◌≡◌, ℕ, List, Option, Some, Ok, false}
use Rattle.dim_base.specs.Files.{Named, with_file}
use Rattle.dim_history_file.specs.Judging.{history_of}
use Rattle.dim_inquiry.specs.declared.report.Report.{Report}
use Rattle.dim_inquiry.specs.declared.stop.Place.TheVariants.{Program, NewHistory, Trace}
use Rattle.dim_words.specs.Words.{RunWords}
use Rattle.dim_inquiry.specs.Inputs.{Inputs}
use Rattle.dim_commands.specs.Output.{Left, played_left, entries_of, new_history, trace, run_report}
use Rattle.std.specs.Str.{bytes_eq}
use Rattle.dim_asm.specs.Assembling.{program_of as assembled_of}
use Rattle.dim_inquiry.specs.Course.{file_at, Course, ◌>>=◌, gives, stores}
use Rattle.dim_inquiry.specs.Taking.{fetches_history, fetches_inputs}
use Rattle.dim_commands.specs.Lawful.{IsLawful}

-- what a run leaves is stored under two names, and its report ends the command
unfoldable pub stores_left : List ℕ → List ℕ → Left → Course Report
stores_left history_name trace_name left = do
  history_stored ← stores NewHistory history_name left.new_history
  trace_stored ← stores Trace trace_name left.trace
  gives left.report

-- a run over these files that leaves this of what it reads
unfoldable pub course_with : (Inputs → Left) → Named → RunWords → Course Report
course_with left files w = do
  inputs ← fetches_inputs files w.program w.history
  stores_left w.new_history w.trace (left inputs)

-- `run`
abbrev pub run_course : Named → RunWords → Course Report
run_course files w = course_with (played_left w.settings) files w

-- both files were stored, and the command ends with its report
pub record Stored (w : RunWords) (before : Named) (after : Option Named) : Type 0 where
  pub program : List ℕ
  pub history : List ℕ
  pub inputs : Inputs
  pub fetched : file_at (before w.program) Program 4194304 ≡ Ok program
  pub fetched_history : (fetches_history before w.history).ending ≡ Ok history
  pub assembled : assembled_of program ≡ Ok inputs.program
  pub read : history_of history ≡ Ok inputs.sigs
  pub lawful : IsLawful inputs w.settings (entries_of inputs w.settings)
  pub apart : bytes_eq w.trace w.new_history ≡ false
  pub files : after
      ≡ Some (with_file (with_file before w.new_history (Some (new_history inputs w.settings))) w.trace (Some (trace inputs w.settings)))
  pub ending : (run_course before w).ending ≡ Ok (run_report inputs w.settings)
