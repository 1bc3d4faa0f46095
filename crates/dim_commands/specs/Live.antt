-- `live`: what a live run leaves.
use Rattle.std.specs.Prelude.{◌≡◌, ℕ, List, Option, Some, Result, Ok, Err, ◌⊎◌, OnOk, false}
use Rattle.dim_base.specs.Files.{Named, with_file}
use Rattle.dim_rag.specs.declared.entry.Entry.{Entry}
use Rattle.dim_history_file.specs.Judging.{history_of}
use Rattle.dim_history_file.specs.Spelling.{history_text}
use Rattle.dim_inquiry.specs.declared.report.Report.{Report}
use Rattle.dim_inquiry.specs.declared.stop.Stop.{Stop}
use Rattle.dim_inquiry.specs.declared.stop.Stop.TheVariants as stops
use Rattle.dim_words.specs.Words.{RunWords}
use Rattle.dim_inquiry.specs.Inputs.{Inputs}
use Rattle.dim_commands.specs.Output.{left_by, grown_by, trace_by, report_by}
use Rattle.std.specs.Str.{bytes_eq}
use Rattle.dim_asm.specs.Assembling.{program_of as assembled_of}
use Rattle.dim_rag.specs.History.{past}
use Rattle.dim_schedule.specs.declared.settings.Settings.{Settings}
use Rattle.dim_run.specs.Gates.{risen}
use Rattle.dim_run.specs.Living.{by_threads}
use Rattle.dim_inquiry.specs.declared.stop.Place.TheVariants as places
use Rattle.dim_inquiry.specs.Course.{WhereTold, Runs, Course}
use Rattle.dim_commands.specs.Lawful.{IsLawful}
use Rattle.dim_inquiry.specs.Taking.{IsUnder}
use Rattle.dim_commands.specs.Run.{course_with}

-- `live`, where the run's entries are these
abbrev pub live_course : List Entry → Named → RunWords → Course Report
live_course entries files w = course_with (left_by entries w.settings) files w

-- what is built of a live run: some entries are lawful, the texts and the report are of them, and
-- the house has counted those that threads made
pub record IsLived (x : Inputs) (s : Settings) (new_history trace : List ℕ) (report : Report) (count count' : ℕ) : Type 0 where
  pub entries : List Entry
  pub lawful : IsLawful x s entries
  pub new_history_is : new_history ≡ history_text (grown_by x s entries)
  pub trace_is : trace ≡ trace_by x s entries
  pub report_is : report ≡ report_by x s entries
  pub counted : count' ≡ risen (by_threads (past entries)) count

-- these are the entries of a run that was made: they are lawful of the program and the history that
-- were fetched
pub record IsMade (w : RunWords) (before : Named) (entries : List Entry) : Type 0 where
  pub program : List ℕ
  pub history : List ℕ
  pub inputs : Inputs
  pub fetched : before w.program ≡ Some program
  pub fetched_history : IsUnder before w.history history
  pub assembled : assembled_of program ≡ Ok inputs.program
  pub read : history_of history ≡ Ok inputs.sigs
  pub lawful : IsLawful inputs w.settings entries

-- the files after the stores of a run with these entries
abbrev pub with_both : Named → RunWords → Inputs → List Entry → Named
with_both before w x entries =
    let grown = history_text (grown_by x w.settings entries) in
    with_file (with_file before w.new_history (Some grown)) w.trace (Some (trace_by x w.settings entries))

-- both files were stored, by these entries, and the command ends with their report
pub record LiveStored (entries : List Entry) (w : RunWords) (before : Named) (after : Option Named) : Type 0 where
  pub made : IsMade w before entries
  pub apart : bytes_eq w.trace w.new_history ≡ false
  pub files : after ≡ Some (with_both before w made.inputs entries)
  pub ending : (live_course entries before w).ending ≡ Ok (report_by made.inputs w.settings entries)

-- no store was tried
abbrev pub IsEarly : Result Report Stop → Type 0
IsEarly (Ok report) = ⊥
IsEarly (Err (stops.Fault places.NewHistory)) = ⊥
IsEarly (Err (stops.Fault places.Trace)) = ⊥
IsEarly (Err stop) = Unit {0}

-- `live` has gone the way of its course for some entries: those of the run that was made, where a
-- store was tried
pub record Lives (w : RunWords) (result : Result Report Stop) (old new : Option Named) (count count' : ℕ) : Type 0 where
  pub entries : List Entry
  pub runs : WhereTold old (λ before. Runs (λ r. r) (live_course entries before w) before result new)
  pub made : WhereTold old (λ before. (IsEarly result × (new ≡ Some before)) ⊎ IsMade w before entries)
  pub stored : OnOk result (WhereTold old (λ before. LiveStored entries w before new))
  pub counted : OnOk result (count' ≡ risen (by_threads (past entries)) count)
