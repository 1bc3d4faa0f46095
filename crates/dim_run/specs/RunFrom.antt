-- What a run of a program from some signatures is told to be.
use Rattle.std.specs.Prelude.{◌≡◌, ◌≤◌, List, length, map}
use Rattle.dim_asm.specs.Code.{Code}
use Rattle.dim_rag.specs.declared.entry.Entry.{Entry}
use Rattle.dim_signature.specs.Sig.{Sig}
use Rattle.dim_events.specs.declared.kind.Totals.{Totals}
use Rattle.dim_events.specs.Kinds.{totals_of}
use Rattle.dim_gate.specs.Kinds.{kind_of}
use Rattle.dim_execution.specs.Executes.{Executes}
use Rattle.dim_execution.specs.Start.{gate_of}
use Rattle.dim_schedule.specs.declared.settings.Settings.{Settings}
use Rattle.dim_run.specs.declared.finish.Last.{Last}
use Rattle.dim_run.specs.declared.playing.KeptRun.{KeptRun}
use Rattle.dim_run.specs.declared.playing.Outcome.{Outcome}
use Rattle.dim_run.specs.declared.playing.Run.{Run}
use Rattle.dim_run.specs.Grown.{grown}
use Rattle.dim_run.specs.Run.{ends_after, outcome_of}

-- the entries, at most 1,048,576, execute the program from these signatures; the known signatures,
-- the ends, the outcome and the totals are what the entries make of them
pub record IsRunFrom (p : Code) (sigs : List Sig) (s : Settings) (entries : List Entry) (known : List Sig) (ends : List Last) (outcome : Outcome) (totals : Totals) : Type 0 where
  pub executes : Executes (gate_of p sigs s.depth) p s.fuel entries
  pub few : length entries ≤ 1048576
  pub known_are : known ≡ grown sigs s.depth entries
  pub ends_are : ends ≡ ends_after p s entries
  pub outcome_is : outcome ≡ outcome_of p entries
  pub totals_are : totals ≡ totals_of (map kind_of entries)

-- the same of a run whose entries are kept in tables, and of one with a list of them
abbrev pub IsKeptRunFrom : Code → List Sig → Settings → KeptRun → Type 0
IsKeptRunFrom p sigs s run = IsRunFrom p sigs s run.tables.entries run.catalogue.sigs run.ends.items run.outcome run.totals

abbrev pub IsListedRunFrom : Code → List Sig → Settings → Run → Type 0
IsListedRunFrom p sigs s run = IsRunFrom p sigs s run.entries.items run.catalogue.sigs run.ends.items run.outcome run.totals
