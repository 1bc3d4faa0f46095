-- A program and a history, as they are read and as they share a table of names.
use Rattle.std.specs.Prelude.{◌≡◌, ◌≤◌, ℕ, List, ◌++◌, length, codes}
use Rattle.dim_stack.specs.Names.{table_of}
use Rattle.dim_signature.specs.Sig.{Sig}
use Rattle.dim_asm.specs.Bound.{bound, own_names}
use Rattle.dim_asm.specs.Code.{Code}
use Rattle.dim_history_file.specs.declared.history.History.{History}
use Rattle.dim_history_file.specs.Grammar.{AreNear}
use Rattle.dim_history_file.specs.Seen.{value_of}
use Rattle.dim_history_file.specs.Value.{NamedSig, names_used, numbered}
use Rattle.dim_inquiry.specs.declared.inputs.Inputs as code

-- what is read: a program, and the signatures of a history
pub record Inputs : Type 0 where
  pub program : Code
  pub sigs : List NamedSig

abbrev pub inputs_of : code.Inputs → Inputs
inputs_of x = record { program = x.program; sigs = value_of x.history }

-- what holds of a history that was read: its table has the names of its stacks, and no others, at
-- most one for each frame of 4,096 signatures of 32 stacks of 32; and its offsets have spellings
pub record IsRead (h : History) : Type 0 where
  pub names : h.names ≡ table_of (names_used (value_of h))
  pub few : length h.names ≤ 4194304
  pub near : AreNear h.catalogue.sigs

-- the table of the names of both
abbrev pub names_of : Inputs → List (List ℕ)
names_of x = table_of (own_names x.program ++ table_of (names_used x.sigs))

-- the program and the signatures by their numbers in that table
abbrev pub program_of : Inputs → Code
program_of x = bound (names_of x) x.program

abbrev pub loaded_of : Inputs → List Sig
loaded_of x = numbered (names_of x) x.sigs

-- the text of the history that knows no signature
abbrev pub empty_history : List ℕ
empty_history = codes "dim history 2\nend 0\n"
