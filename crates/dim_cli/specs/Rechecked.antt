-- What `check` says of what a run has stored.
use Rattle.std.specs.Prelude.{◌≡◌, ℕ, length, Ok}
use Rattle.dim_base.specs.Files.{Named}
use Rattle.dim_words.specs.Words.{RunWords, CheckWords}
use Rattle.dim_inquiry.specs.Check.{checked, check_course}
use Rattle.dim_cli.specs.Headline.{Headline, IsGood}

-- the check of what a run with these words has stored
abbrev pub check_of : RunWords → CheckWords
check_of w = record { program = w.program; history = w.history; trace = w.trace }

-- files have the program and the history that a run has read, and the trace that it has stored
pub record AreKept (w : RunWords) (before after files : Named) : Type 0 where
  pub program : files w.program ≡ before w.program
  pub history : files w.history ≡ before w.history
  pub trace : files w.trace ≡ after w.trace

-- Over such files the check of a run says yes, and the number of its entries.
abbrev pub StoredLaw : Type 0
StoredLaw = (w : RunWords) (status : ℕ) (before after files : Named) (h : Headline w status before after)
    → IsGood w before h.inputs
    → AreKept w before after files
    → (check_course files (check_of w)).ending ≡ Ok (checked (length h.entries))
