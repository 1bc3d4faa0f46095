-- The run of a program from some signatures, as it is kept.
use Rattle.std.specs.Prelude.{◌≡◌, ◌≤◌, List, length}
use Rattle.dim_rag.specs.History.{past}
use Rattle.dim_asm.specs.Code.{Code}
use Rattle.dim_rag.specs.declared.entry.Entry.{Entry}
use Rattle.dim_signature.specs.Sig.{Sig}
use Rattle.dim_signature.specs.Catalogue.{IsCatalogue}
use Rattle.dim_gate.specs.Immune.{IsImmune}
use Rattle.dim_events.specs.declared.kind.Totals.{Totals}
use Rattle.dim_run.specs.declared.finish.Last.{Last}
use Rattle.dim_run.specs.declared.playing.KeptRun.{KeptRun}
use Rattle.dim_run.specs.declared.playing.Outcome.{Outcome}
use Rattle.dim_run.specs.declared.playing.Run.{Run}
use Rattle.dim_schedule.specs.declared.settings.Settings.{Settings}
use Rattle.dim_run.specs.Complete.{IsComplete}
use Rattle.dim_run.specs.Crew.{rules_of}
use Rattle.dim_run.specs.Run.{played}
use Rattle.dim_run.specs.RunFrom.{IsRunFrom}

-- a run with these entries, known signatures, ends, outcome and totals is that of a program from
-- some signatures, which a run may load, and it is immune and complete
pub record IsPlayed (p : Code) (sigs : List Sig) (s : Settings) (entries : List Entry) (known : List Sig) (ends : List Last) (outcome : Outcome) (totals : Totals) : Type 0 where
  pub loaded : IsCatalogue sigs
  pub few_loaded : length sigs ≤ 4080
  pub entries_are : entries ≡ played p sigs s
  pub run_is : IsRunFrom p sigs s entries known ends outcome totals
  pub immune : IsImmune sigs s.depth (past entries)
  pub complete : IsComplete (rules_of p sigs s) (past entries)

-- the same of a run whose entries are kept in tables, and of one with a list of them
abbrev pub IsKeptRun : Code → List Sig → Settings → KeptRun → Type 0
IsKeptRun p sigs s run = IsPlayed p sigs s run.tables.entries run.catalogue.sigs run.ends.items run.outcome run.totals

abbrev pub IsRun : Code → List Sig → Settings → Run → Type 0
IsRun p sigs s run = IsPlayed p sigs s run.entries.items run.catalogue.sigs run.ends.items run.outcome run.totals
