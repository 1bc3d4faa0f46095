-- What a reader has read.
use Rattle.std.specs.Prelude.{◌≡◌, ◌<◌, false, ⊤, length}
use Rattle.dim_asm.specs.declared.reader.Reader.{Reader}
use Rattle.dim_asm.specs.Code.{has_name}
use Rattle.dim_asm.specs.Source.{Source, Statement, LockLine, FuncLine, OpLine, names_of, draft_count}
use Rattle.dim_asm.specs.Judging.{State}

abbrev pub read : Reader → Source
read r = record { locks = r.locks; funcs = r.funcs.items; threads = r.threads.items }

abbrev pub state_of : Reader → State
state_of r = record { stage = r.stage; source = read r }

-- what it keeps beside that is so
pub record IsCounted (r : Reader) : Type 0 where
  pub names : r.names ≡ names_of (read r)
  pub ops : r.ops ≡ draft_count r.funcs.items

-- a name that is declared is new, and an instruction stands in a function
abbrev pub HasRoom : Statement → Source → Type 0
HasRoom (LockLine name) s = (has_name s.locks name ≡ false) × (length s.locks < 256)
HasRoom (FuncLine name locals) s = (has_name (names_of s) name ≡ false) × (length s.funcs < 256)
HasRoom (OpLine draft) s = (0 < length s.funcs) × (draft_count s.funcs < 65536)
HasRoom _ s = ⊤
