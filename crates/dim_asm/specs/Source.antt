-- What a text says, before names are turned into numbers.
use Rattle.std.specs.Prelude.{ℕ, ◌-◌, ℤ, List, [], ◌∷◌, ◌++◌, length, map, sum_by, slice_get, Option, Some, None}
use Rattle.dim_asm.specs.declared.op.Op.{Op}
use Rattle.dim_asm.specs.declared.mnemonic.Naming.{Naming}

-- an instruction as it stands: complete, or with the name of a function or a lock
pub data Draft : Type 0 where
  Ready : Op → Draft
  Refers : Naming → List ℕ → Draft

-- a function as it stands
pub record DraftFunction : Type 0 where
  pub name : List ℕ
  pub locals : ℕ
  pub drafts : List Draft

-- a thread as it stands
pub record DraftStart : Type 0 where
  pub func : List ℕ
  pub argument : ℤ

pub record Source : Type 0 where
  pub locks : List (List ℕ)
  pub funcs : List DraftFunction
  pub threads : List DraftStart

-- the names of the functions, and the number of all instructions
abbrev pub names_of : Source → List (List ℕ)
names_of s = map (λ f. f.name) s.funcs

abbrev pub draft_count : List DraftFunction → ℕ
draft_count funcs = sum_by (λ f. length f.drafts) funcs

-- how many instructions the last function has
abbrev pub size_in : Option DraftFunction → ℕ
size_in None = 0
size_in (Some f) = length f.drafts

abbrev pub last_size : List DraftFunction → ℕ
last_size funcs = size_in (slice_get funcs (length funcs - 1))

-- the last function with one more instruction
abbrev pub with_draft : Draft → List DraftFunction → List DraftFunction
with_draft draft [] = []
with_draft draft (f ∷ []) = record f { drafts = f.drafts ++ draft ∷ [] } ∷ []
with_draft draft (f ∷ g ∷ funcs) = f ∷ with_draft draft (g ∷ funcs)

-- a line that may stand in a text
pub data Statement : Type 0 where
  Head : Statement
  LockLine : List ℕ → Statement
  FuncLine : List ℕ → ℕ → Statement
  OpLine : Draft → Statement
  EndLine : Statement
  ThreadLine : List ℕ → ℤ → Statement
  Close : Statement

-- what has been read behind a line
abbrev pub with_statement : Statement → Source → Source
with_statement Head s = s
with_statement (LockLine name) s = record s { locks = s.locks ++ name ∷ [] }
with_statement (FuncLine name locals) s = record s { funcs = s.funcs ++ record { name = name; locals = locals; drafts = [] } ∷ [] }
with_statement (OpLine draft) s = record s { funcs = with_draft draft s.funcs }
with_statement EndLine s = s
with_statement (ThreadLine func argument) s = record s { threads = s.threads ++ record { func = func; argument = argument } ∷ [] }
with_statement Close s = s
