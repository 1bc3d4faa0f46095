-- How a trace comes to be judged: what `check`, `why`, `depths` and `predict` do before they report.
use Rattle.std.specs.Prelude.{ℕ, List, Err}
use Rattle.dim_base.specs.Files.{Named}
use Rattle.dim_signature.specs.Sig.{Sig}
use Rattle.dim_asm.specs.Code.{Code}
use Rattle.dim_trace.specs.declared.verdict.Verdict.{Verdict}
use Rattle.dim_trace.specs.declared.verdict.Verdict.TheVariants as verdict
use Rattle.dim_execution.specs.Start.{gate_of}
use Rattle.dim_trace.specs.Judging.{trace_of}
use Rattle.dim_trace.specs.Tested.{verdict_of}
use Rattle.dim_trace.specs.Value.{TraceValue}
use Rattle.dim_inquiry.specs.declared.judging.Texts.{Texts}
use Rattle.dim_inquiry.specs.declared.report.Report.{Report}
use Rattle.dim_inquiry.specs.declared.stop.Place.TheVariants.{Program, Trace}
use Rattle.dim_inquiry.specs.declared.stop.Refusal.TheVariants as refusals
use Rattle.dim_words.specs.Words.{CheckWords}
use Rattle.dim_inquiry.specs.Inputs.{names_of, program_of as bound_of, loaded_of}
use Rattle.dim_inquiry.specs.declared.judging.Given as code_given
use Rattle.dim_execution.specs.Executes.{Executes}
use Rattle.dim_inquiry.specs.Course.{Course, ◌>>=◌, ends, gives, fetches, refusing}
use Rattle.dim_inquiry.specs.Taking.{fetches_history, takes}

-- the texts of a check
unfoldable pub fetches_texts : Named → CheckWords → Course Texts
fetches_texts files w = do
  program ← fetches files Program w.program 4194304
  history ← fetches_history files w.history
  trace ← fetches files Trace w.trace 536870912
  gives (record { program = program; history = history; trace = trace })

-- what is judged: a program and the signatures of a history, by their numbers in the table of the
-- names of both, that table, and a trace
pub record Given : Type 0 where
  pub program : Code
  pub names : List (List ℕ)
  pub loaded : List Sig
  pub trace : TraceValue

abbrev pub spells : Code → List (List ℕ) → List ℕ → Course TraceValue
spells p names bytes = ends (refusing refusals.BadTrace (trace_of p names bytes))

unfoldable pub takes_given : Texts → Course Given
takes_given texts = do
  inputs ← takes texts.program texts.history
  trace ← spells (bound_of inputs) (names_of inputs) texts.trace
  gives (record { program = bound_of inputs; names = names_of inputs; loaded = loaded_of inputs; trace = trace })

-- the verdict on the entries, by the fuel and the depth of their trace
abbrev pub verdict_on : Given → Verdict
verdict_on g = verdict_of (gate_of g.program g.loaded g.trace.depth) g.program g.trace.fuel g.trace.entries

-- on where the verdict is yes, or a refusal
abbrev pub lets_on : Verdict → Course (Unit {0})
lets_on verdict.Yes = gives tt
lets_on (verdict.No place rule) = ends (Err (refusals.No place rule))

abbrev pub judges : Given → Course (Unit {0})
judges g = lets_on (verdict_on g)

-- what `check` judges, where it says yes to it
unfoldable pub judged_course : Named → CheckWords → Course Given
judged_course files w = do
  texts ← fetches_texts files w
  given ← takes_given texts
  so ← judges given
  gives given

-- a command that reports on it
unfoldable pub reports_on : (Given → Report) → Named → CheckWords → Course Report
reports_on report files w = do
  given ← judged_course files w
  gives (report given)

-- what is judged
abbrev pub given_of : code_given.Given → Given
given_of g = record { program = g.both.program; names = g.both.history.names; loaded = g.both.history.catalogue.sigs; trace = g.trace }

-- the trace executes the program on the signatures
abbrev pub IsExecuted : Given → Type 0
IsExecuted g = Executes (gate_of g.program g.loaded g.trace.depth) g.program g.trace.fuel g.trace.entries
