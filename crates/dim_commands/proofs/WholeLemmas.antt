-- A run is whole: what its own clauses and the laws of runs say of it.
use Rattle.std.proofs.Common.{◌≤◌, ℕ, List, length, sym, subst}
use Rattle.dim_asm.specs.Bound.{IsBound}
use Rattle.dim_asm.specs.Code.{Code, IsProgram}
use Rattle.dim_rag.specs.History.{past}
use Rattle.dim_signature.specs.Sig.{Sig}
use Rattle.dim_signature.specs.Catalogue.{IsCatalogue}
use Rattle.dim_gate.specs.Immune.{ImmuneLaw}
use Rattle.dim_execution.specs.Start.{gate_of}
use Rattle.dim_history_file.specs.Grammar.{AreNear}
use Rattle.dim_history_file.specs.Value.{AreNamed}
use Rattle.dim_schedule.specs.declared.settings.Settings.{Settings}
use Rattle.dim_run.specs.declared.playing.KeptRun.{KeptRun}
use Rattle.dim_run.specs.Complete.{CompleteLaw}
use Rattle.dim_run.specs.Crew.{rules_of}
use Rattle.dim_run.specs.RunFrom.{IsKeptRunFrom}
use Rattle.dim_run.specs.Spelled.{AreSpelled, SpelledLaw}
use Rattle.dim_commands.specs.Whole.{IsWhole}
use Rattle.dim_commands.proofs.SpelledLemmas.{spelled_of}

-- what is known of the names, the program, the signatures and the run
pub record Clauses (p : Code) (names : List (List ℕ)) (loaded : List Sig) (s : Settings) (run : KeptRun) : Type 0 where
  pub program : IsProgram p
  pub bound : IsBound names p
  pub named : AreNamed names loaded
  pub near : AreNear loaded
  pub catalogue : IsCatalogue loaded
  pub few : length loaded ≤ 4080
  pub run_is : IsKeptRunFrom p loaded s run

pub whole_by : ImmuneLaw → CompleteLaw → SpelledLaw → (p : Code) (names : List (List ℕ)) (loaded : List Sig) (s : Settings) (run : KeptRun) → Clauses p names loaded s run → IsWhole p names loaded s run
whole_by immune complete spelled p names loaded s run k = record {
  bound = k.bound;
  traceable = record { loaded = k.catalogue; few_loaded = k.few; executes = k.run_is.executes; few = k.run_is.few };
  run_is = k.run_is;
  immune = immune (gate_of p loaded s.depth) (past run.tables.entries) k.run_is.executes.legal;
  complete = complete (rules_of p loaded s) run.tables.entries k.run_is.executes;
  spelled =
      subst (AreSpelled names) (sym k.run_is.known_are)
      (spelled (rules_of p loaded s) names run.tables.entries k.program k.bound (spelled_of names loaded k.named k.near) k.run_is.executes);
}
