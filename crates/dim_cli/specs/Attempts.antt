-- What stands after attempts of which the last reports an outcome.
use Rattle.std.specs.Prelude.{◌≡◌, ◌⊎◌, ℕ, suc, List, Some, Ok}
use Rattle.dim_base.specs.Files.{Named}
use Rattle.dim_asm.specs.Assembling.{program_of as assembled_of}
use Rattle.dim_history_file.specs.Judging.{history_of}
use Rattle.dim_history_file.specs.Spelling.{history_text}
use Rattle.dim_rag.specs.declared.entry.Entry.{Entry}
use Rattle.dim_words.specs.Words.{ImmunizeWords}
use Rattle.dim_commands.specs.Immunize.{last_of, sigs_at, entries_at, history_at, AreLawful}
use Rattle.dim_inquiry.specs.Inputs.{Inputs}
use Rattle.dim_commands.specs.Output.{trace_by}
use Rattle.dim_inquiry.specs.Taking.{IsUnder}
use Rattle.dim_cli.specs.ByPlaces.{ByPlaces}
use Rattle.dim_cli.specs.Headline.{outcome_status, Comes}

-- As many attempts are made as there is reason for, of the program and from the history, both as
-- they were fetched. The trace written is the text of the entries of the last one, which begins from
-- the signatures that the one before left: they execute the program on these, and are immune; at
-- their end nobody yields, and the signature of every cycle that ever stood is known. The history
-- written has the signatures after all attempts, first those read, with the yields of all attempts
-- counted, and at last one for each Learn of the last attempt; it reads back, and is no longer than
-- a fetch takes. The status is that of the outcome of the last one, 3 exactly where its entries end
-- with a cycle, or 8 where the report could not be put.
pub record AttemptsHeadline (w : ImmunizeWords) (status : ℕ) (before after : Named) : Type 0 where
  pub program : List ℕ
  pub history : List ℕ
  pub inputs : Inputs
  -- how many attempts come before the last one
  pub last : ℕ
  pub fetched : before w.run.program ≡ Some program
  pub fetched_history : IsUnder before w.run.history history
  pub assembled : assembled_of program ≡ Ok inputs.program
  pub read : history_of history ≡ Ok inputs.sigs
  pub lawful : AreLawful inputs w.run.settings w.attempts last
  pub trace : after w.run.trace ≡ Some (trace_by inputs w.run.settings (entries_at inputs w.run.settings last))
  pub new_history : after w.run.new_history ≡ Some (history_text (history_at inputs w.run.settings (suc last)))
  pub status_is : (status ≡ outcome_status inputs (entries_at inputs w.run.settings last)) ⊎ (status ≡ 8)
  pub by_places : ByPlaces inputs (sigs_at inputs w.run.settings last) w.run.settings (entries_at inputs w.run.settings last) status

-- the entries of the last attempt, by tests
abbrev pub last_entries : ImmunizeWords → Inputs → List Entry
last_entries w x = entries_at x w.run.settings (last_of x w.run.settings w.attempts)

-- attempts whose program and history are good come to the outcome of the last one, or memory runs
-- out
abbrev pub ComesAtLast : ImmunizeWords → ℕ → Named → Type 0
ComesAtLast w status before = Comes (last_entries w) w.run status before
