-- What is made of a log.
use Rattle.std.specs.Prelude.{◌≡◌, ◌⊎◌, ◌==◌, true, ℕ, List, map, vec_len, Option, Some, Ok}
use Rattle.dim_base.specs.Files.{Named, with_file}
use Rattle.dim_asm.specs.Assembling.{program_of}
use Rattle.dim_asm.specs.Code.{Code}
use Rattle.dim_log.specs.declared.log.Log.{Log}
use Rattle.dim_log.specs.Saying.{log_of}
use Rattle.dim_log.specs.Seen.{log_value}
use Rattle.dim_orders.specs.declared.kept.Kept.{Kept}
use Rattle.dim_orders.specs.Kept.{AreKept, shown}
use Rattle.dim_transcribe.specs.declared.transcript.Key.{Key}
use Rattle.dim_transcribe.specs.Performs.{Performs}
use Rattle.transcribe.specs.declared.making.Made.{Made}
use Rattle.transcribe.specs.declared.making.Made.TheVariants as made
use Rattle.transcribe.specs.declared.words.Command.{Command}

-- where the files tell what they hold
abbrev pub WhereTold : Option Named → (Named → Type 0) → Type 0
WhereTold told P = (files : Named) → told ≡ Some files → P files

-- a text says a log, and this is what is kept of it
pub record Keeps (bytes : List ℕ) (log : Log) (kept : Kept) : Type 0 where
  pub says : log_of bytes ≡ Ok (log_value log)
  pub are_kept : AreKept log.events.items (map shown kept.chains.items)

-- nothing is kept of the log that a text says
pub record KeepsNothing (bytes : List ℕ) : Type 0 where
  pub log : Log
  pub kept : Kept
  pub keeps : Keeps bytes log kept
  pub none : (vec_len kept.chains == 0) ≡ true

-- a text spells a program that performs what is kept of the log that another says
pub record Transcribes (bytes text : List ℕ) : Type 0 where
  pub log : Log
  pub kept : Kept
  pub keeps : Keeps bytes log kept
  pub code : Code
  pub spelled : program_of text ≡ Ok code
  pub key : Key
  pub performs : Performs code key log kept

-- this was made of the text of a log
abbrev pub IsMadeOf : List ℕ → Made → Type 0
IsMadeOf bytes (made.Nothing summary) = KeepsNothing bytes
IsMadeOf bytes (made.Program text places summary) = Transcribes bytes text

-- a program of the log, and the table of its places, were stored
pub record IsStored (c : Command) (bytes : List ℕ) (before : Named) (after : Option Named) : Type 0 where
  pub text : List ℕ
  pub table : List ℕ
  pub transcribes : Transcribes bytes text
  pub files : after ≡ Some (with_file (with_file before c.program.now (Some text)) c.places.now (Some table))

-- the log was read, and nothing is kept of it and nothing was stored, or what is made of it was
pub record IsWorked (c : Command) (after : Option Named) (before : Named) : Type 0 where
  pub bytes : List ℕ
  pub there : before c.log.now ≡ Some bytes
  pub left : (KeepsNothing bytes × (after ≡ Some before)) ⊎ IsStored c bytes before after
