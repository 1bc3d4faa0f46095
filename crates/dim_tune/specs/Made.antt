-- Attempts while they are made.
use Rattle.std.specs.Prelude.{◌≡◌, ℕ, suc, ◌<◌, List, [], ◌∷◌, ◌++◌, length}
use Rattle.dim_asm.specs.Code.{Code}
use Rattle.dim_signature.specs.Sig.{Sig}
use Rattle.dim_history_file.specs.Grammar.{AreNear}
use Rattle.dim_schedule.specs.declared.settings.Settings.{Settings}
use Rattle.dim_tune.specs.declared.attempt.KeptImmunized.{KeptImmunized}
use Rattle.dim_tune.specs.declared.making.Made.{Made}
use Rattle.dim_tune.specs.declared.making.Rest.{Rest}
use Rattle.dim_tune.specs.Attempts.{attempt_of, attempts_of, sigs_after, AreAttempts, IsFollowed}
use Rattle.dim_tune.specs.Runs.{IsKeptRun, IsPlayed}

-- attempts that were made from these names and signatures, and what they leave
pub record IsMade (names : List (List ℕ)) (p : Code) (s : Settings) (read : List Sig) (m : Made) : Type 0 where
  pub lines_are : m.lines.items ≡ attempts_of p s read (length m.lines.items)
  pub names_are : m.history.names ≡ names
  pub sigs_are : m.history.catalogue.sigs ≡ sigs_after p s read (length m.lines.items)
  pub near : AreNear m.history.catalogue.sigs

-- there is reason for one more after each of the first n attempts
abbrev pub AreFollowed : List (List ℕ) → Code → Settings → List Sig → ℕ → Type 0
AreFollowed names p s read n = (i : ℕ) → i < n → IsFollowed names p s read i

-- a run with this rest, from some signatures, leaves these
abbrev pub IsRestOf : Code → List Sig → Settings → List Sig → Rest → Type 0
IsRestOf p sigs s known rest = IsPlayed p sigs s rest.tables.entries known rest.ends.items rest.outcome rest.totals

-- one attempt more, from the history that the one before left
pub record IsAgain (p : Code) (s : Settings) (old new : Made) (rest : Rest) : Type 0 where
  pub rest_is : IsRestOf p old.history.catalogue.sigs s new.history.catalogue.sigs rest
  pub lines_are : new.lines.items ≡ old.lines.items ++ attempt_of p rest.tables.entries ∷ []
  pub names_are : new.history.names ≡ old.history.names
  pub near : AreNear new.history.catalogue.sigs

-- all attempts of at most k, and the rest of the last run
pub record AreDone (names : List (List ℕ)) (p : Code) (s : Settings) (read : List Sig) (k : ℕ) (m : Made) (rest : Rest) : Type 0 where
  pub made : IsMade names p s read m
  pub attempts : AreAttempts names p s read k (length m.lines.items)
  pub rest_is : (i : ℕ) → suc i ≡ length m.lines.items
      → IsRestOf p (sigs_after p s read i) s m.history.catalogue.sigs rest

-- the same where the run is whole again
pub record AreKept (names : List (List ℕ)) (p : Code) (s : Settings) (read : List Sig) (k : ℕ) (m : KeptImmunized) : Type 0 where
  pub attempts : AreAttempts names p s read k (length m.lines.items)
  pub lines_are : m.lines.items ≡ attempts_of p s read (length m.lines.items)
  pub run_is : (i : ℕ) → suc i ≡ length m.lines.items → IsKeptRun p (sigs_after p s read i) s m.run
  pub names_are : m.history.names ≡ names
  pub sigs_are : m.history.catalogue.sigs ≡ sigs_after p s read (length m.lines.items)
  pub near : AreNear m.history.catalogue.sigs
