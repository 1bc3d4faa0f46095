-- How a command comes to the program and the history that its words name.
use Rattle.std.specs.Prelude.{◌≡◌, ℕ, List, length, Some, Ok, Err, nat_lt, ◌||◌, if◌then◌else◌, true, false}
use Rattle.dim_base.specs.Files.{Named}
use Rattle.dim_asm.specs.Code.{Code}
use Rattle.dim_asm.specs.Assembling.{program_of}
use Rattle.dim_history_file.specs.Judging.{history_of}
use Rattle.dim_history_file.specs.Value.{NamedSig}
use Rattle.dim_inquiry.specs.declared.stop.Place.TheVariants.{Program, History}
use Rattle.dim_inquiry.specs.declared.stop.Refusal.TheVariants as refusals
use Rattle.dim_words.specs.Words.{is_dash}
use Rattle.dim_inquiry.specs.Inputs.{Inputs, empty_history}
use Rattle.dim_inquiry.specs.Course.{Course, file_at, ◌>>=◌, ends, gives, fetches, refusing}

-- the history that a word names: `-` isn't fetched
abbrev pub fetches_history : Named → List ℕ → Course (List ℕ)
fetches_history files name = if is_dash name then gives empty_history else fetches files History name 8388608

abbrev pub assembles : List ℕ → Course Code
assembles bytes = ends (refusing refusals.BadProgram (program_of bytes))

abbrev pub reads : List ℕ → Course (List NamedSig)
reads bytes = ends (refusing refusals.BadHistory (history_of bytes))

-- a run loads at most 4,080 signatures, of at most 6,291,456 bytes
abbrev pub loads : List NamedSig → List ℕ → Course (Unit {0})
loads sigs bytes = if nat_lt 4080 (length sigs) || nat_lt 6291456 (length bytes) then ends (Err (refusals.Full (length sigs) (length bytes))) else gives tt

-- the texts of a program and of a history are read, and the history is loaded
unfoldable pub takes : List ℕ → List ℕ → Course Inputs
takes program history = do
  p ← assembles program
  sigs ← reads history
  loaded ← loads sigs history
  gives (record { program = p; sigs = sigs })

-- a program and a history are fetched and taken
unfoldable pub fetches_inputs : Named → List ℕ → List ℕ → Course Inputs
fetches_inputs files program_name history_name = do
  program ← fetches files Program program_name 4194304
  history ← fetches_history files history_name
  takes program history

-- what was fetched under two names, and taken
pub record IsTaken (before : Named) (program_name history_name : List ℕ) (x : Inputs) : Type 0 where
  pub program : List ℕ
  pub history : List ℕ
  pub fetched : file_at (before program_name) Program 4194304 ≡ Ok program
  pub fetched_history : (fetches_history before history_name).ending ≡ Ok history
  pub assembled : program_of program ≡ Ok x.program
  pub read : history_of history ≡ Ok x.sigs

-- the bytes of the history that a word names: those of the one that knows no signature, for `-`, or
-- those under the name
pub record IsUnder (before : Named) (name bytes : List ℕ) : Type 0 where
  pub dash : is_dash name ≡ true → bytes ≡ empty_history
  pub file : is_dash name ≡ false → before name ≡ Some bytes
