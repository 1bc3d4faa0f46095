-- What a run leaves: its texts and its report.
use Rattle.std.specs.Prelude.{ℕ, List, length}
use Rattle.dim_signature.specs.Sig.{Sig}
use Rattle.dim_history_file.specs.Spelling.{history_text}
use Rattle.dim_history_file.specs.Value.{NamedSig, named}
use Rattle.dim_rag.specs.declared.entry.Entry.{Entry}
use Rattle.dim_rag.specs.History.{past}
use Rattle.dim_gate.specs.Known.{known_sigs}
use Rattle.dim_schedule.specs.declared.settings.Settings.{Settings}
use Rattle.dim_run.specs.Grown.{grown}
use Rattle.dim_run.specs.Run.{played, outcome_of, ends_after}
use Rattle.dim_trace.specs.Text.{trace_text}
use Rattle.dim_inquiry.specs.declared.report.Report.{Report}
use Rattle.dim_inquiry.specs.Inputs.{Inputs, names_of, program_of, loaded_of}
use Rattle.dim_commands.specs.declared.storing.Output.{Output}
use Rattle.dim_commands.specs.Report.{ran}

-- the entries of the run, oldest first
unfoldable pub entries_of : Inputs → Settings → List Entry
entries_of x s = played (program_of x) (loaded_of x) s

-- the signatures known after some entries of a run that loads these, with functions read as names:
-- the loaded ones, and then one for each Learn, and the Yields of the entries counted
abbrev pub grown_from : Inputs → List Sig → Settings → List Entry → List NamedSig
grown_from x sigs s entries = named (names_of x) (grown sigs s.depth entries)

-- of one that loads those of the history
abbrev pub grown_by : Inputs → Settings → List Entry → List NamedSig
grown_by x s entries = grown_from x (loaded_of x) s entries

-- the text of the history after the run
unfoldable pub new_history : Inputs → Settings → List ℕ
new_history x s = history_text (grown_by x s (entries_of x s))

-- the text of its trace
abbrev pub trace_by : Inputs → Settings → List Entry → List ℕ
trace_by x s entries = trace_text (program_of x) (names_of x) s.fuel s.depth entries

unfoldable pub trace : Inputs → Settings → List ℕ
trace x s = trace_by x s (entries_of x s)

-- the report on some entries
abbrev pub report_by : Inputs → Settings → List Entry → Report
report_by x s entries = ran (program_of x) (outcome_of (program_of x) entries) entries (length (known_sigs (loaded_of x) s.depth (past entries))) (ends_after (program_of x) s entries)

-- the report of the run
unfoldable pub run_report : Inputs → Settings → Report
run_report x s = report_by x s (entries_of x s)

-- what a run leaves: the text of its history, that of its trace, and its report
pub record Left : Type 0 where
  pub new_history : List ℕ
  pub trace : List ℕ
  pub report : Report

-- where it is played
abbrev pub played_left : Settings → Inputs → Left
played_left s x = record { new_history = new_history x s; trace = trace x s; report = run_report x s }

-- where its entries are these
abbrev pub left_by : List Entry → Settings → Inputs → Left
left_by entries s x = record { new_history = history_text (grown_by x s entries); trace = trace_by x s entries; report = report_by x s entries }

-- what contracts see of it
abbrev pub left_of : Output → Left
left_of o = record { new_history = o.texts.new_history; trace = o.texts.trace; report = o.report }
