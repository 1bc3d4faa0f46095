-- What holds of the entries of a run.
use Rattle.std.specs.Prelude.{◌≡◌, ◌≤◌, ℕ, List, length, Ok}
use Rattle.dim_asm.specs.Code.{Code}
use Rattle.dim_history_file.specs.Judging.{history_of}
use Rattle.dim_history_file.specs.Spelling.{history_text}
use Rattle.dim_history_file.specs.Value.{named}
use Rattle.dim_rag.specs.declared.entry.Entry.{Entry}
use Rattle.dim_rag.specs.History.{past}
use Rattle.dim_signature.specs.Sig.{Sig}
use Rattle.dim_signature.specs.Catalogue.{IsCatalogue}
use Rattle.dim_gate.specs.Immune.{IsImmune}
use Rattle.dim_schedule.specs.declared.settings.Settings.{Settings}
use Rattle.dim_run.specs.Complete.{IsComplete}
use Rattle.dim_run.specs.Crew.{rules_of}
use Rattle.dim_execution.specs.Executes.{Executes}
use Rattle.dim_execution.specs.Start.{gate_of}
use Rattle.dim_trace.specs.Judging.{trace_of}
use Rattle.dim_trace.specs.Text.{trace_text}
use Rattle.dim_trace.specs.Value.{TraceValue}
use Rattle.dim_inquiry.specs.Inputs.{Inputs, names_of, program_of, loaded_of}
use Rattle.dim_commands.specs.Output.{grown_from}

-- a run's trace
abbrev pub trace_value : Settings → List Entry → TraceValue
trace_value s entries = record { fuel = s.fuel; depth = s.depth; entries = entries }

-- a run may load these signatures, and the entries execute the program on them and fit into a trace
pub record IsTraceable (p : Code) (sigs : List Sig) (s : Settings) (entries : List Entry) : Type 0 where
  pub loaded : IsCatalogue sigs
  pub few_loaded : length sigs ≤ 4080
  pub executes : Executes (gate_of p sigs s.depth) p s.fuel entries
  pub few : length entries ≤ 1048576

-- its text is no longer than a fetch takes, and reads back
pub record ReadsBack (p : Code) (names : List (List ℕ)) (s : Settings) (entries : List Entry) : Type 0 where
  pub short : length (trace_text p names s.fuel s.depth entries) ≤ 536870912
  pub again : trace_of p names (trace_text p names s.fuel s.depth entries)
      ≡ Ok (trace_value s entries)

-- What holds of the entries of a run from some signatures: they execute the program on these, and
-- they are immune. At their end nobody yields, and the signature of each cycle that ever stood is
-- known. The signatures of the history are those read, and the history of the signatures then known
-- reads back, and so does the trace.
pub record IsLawfulFrom (x : Inputs) (sigs : List Sig) (s : Settings) (entries : List Entry) : Type 0 where
  pub executes : Executes (gate_of (program_of x) sigs s.depth) (program_of x) s.fuel entries
  pub immune : IsImmune sigs s.depth (past entries)
  pub complete : IsComplete (rules_of (program_of x) sigs s) (past entries)
  pub loaded : named (names_of x) (loaded_of x) ≡ x.sigs
  pub reads_back : history_of (history_text (grown_from x sigs s entries)) ≡ Ok (grown_from x sigs s entries)
  pub trace_reads_back : ReadsBack (program_of x) (names_of x) s entries

-- and from the signatures of the history
abbrev pub IsLawful : Inputs → Settings → List Entry → Type 0
IsLawful x s entries = IsLawfulFrom x (loaded_of x) s entries
