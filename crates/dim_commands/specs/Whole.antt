-- What holds of a run of a program from some signatures, in one table of names.
use Rattle.std.specs.Prelude.{◌≡◌, ◌≤◌, ℕ, List, length}
use Rattle.dim_asm.specs.Bound.{IsBound}
use Rattle.dim_asm.specs.Code.{Code}
use Rattle.dim_rag.specs.History.{past}
use Rattle.dim_signature.specs.Sig.{Sig}
use Rattle.dim_gate.specs.Immune.{IsImmune}
use Rattle.dim_history_file.specs.Grammar.{AreNear}
use Rattle.dim_schedule.specs.Settings.{AreSettings}
use Rattle.dim_schedule.specs.declared.settings.Settings.{Settings}
use Rattle.dim_inquiry.specs.declared.inputs.Inputs.{Inputs}
use Rattle.dim_run.specs.declared.playing.KeptRun.{KeptRun}
use Rattle.dim_run.specs.Complete.{IsComplete}
use Rattle.dim_run.specs.Crew.{rules_of}
use Rattle.dim_run.specs.RunFrom.{IsKeptRunFrom}
use Rattle.dim_run.specs.Spelled.{AreSpelled}
use Rattle.dim_commands.specs.declared.playing.Made.{Made}
use Rattle.dim_commands.specs.Lawful.{IsTraceable}

-- a run may begin with this program and this history: at most 4,080 signatures are loaded, and the
-- program's functions have their numbers in the history's table
pub record MayRun (both : Inputs) (s : Settings) : Type 0 where
  pub settings : AreSettings s
  pub few : length both.history.catalogue.sigs ≤ 4080
  pub bound : IsBound both.history.names both.program
  pub near : AreNear both.history.catalogue.sigs

-- the program is bound to the names, and the run is one of it from the signatures, which a run may
-- load; its entries fit into a trace, are immune and complete, and the known signatures at its end
-- have a spelling
pub record IsWhole (p : Code) (names : List (List ℕ)) (loaded : List Sig) (s : Settings) (run : KeptRun) : Type 0 where
  pub bound : IsBound names p
  pub traceable : IsTraceable p loaded s run.tables.entries
  pub run_is : IsKeptRunFrom p loaded s run
  pub immune : IsImmune loaded s.depth (past run.tables.entries)
  pub complete : IsComplete (rules_of p loaded s) (past run.tables.entries)
  pub spelled : AreSpelled names run.catalogue.sigs

-- the run is of this program and this history
pub record IsMadeOf (both : Inputs) (s : Settings) (made : Made) : Type 0 where
  pub program_is : made.program ≡ both.program
  pub names_is : made.names ≡ both.history.names
  pub whole : IsWhole made.program made.names both.history.catalogue.sigs s made.run
