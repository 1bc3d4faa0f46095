-- The one text of a program.
use Rattle.std.specs.Prelude.{ℕ, ⊤, List, [], map, slice_index_or, All, FitsSigned}
use Rattle.std.specs.Int.{w64}
use Rattle.dim_asm.specs.declared.op.Op.{Op}
use Rattle.dim_asm.specs.declared.op.Op.TheVariants as op
use Rattle.dim_asm.specs.declared.mnemonic.Naming.TheVariants as naming
use Rattle.dim_asm.specs.declared.start.Start.{Start}
use Rattle.dim_asm.specs.Code.{Code, Function, func_names, IsProgram}
use Rattle.dim_asm.specs.Source.{Source, Draft, Ready, Refers, DraftFunction, DraftStart, Statement, ThreadLine}
use Rattle.dim_asm.specs.Linking.{Tables}
use Rattle.dim_asm.specs.Spelling.{op_words, source_text}

-- the names of a program's locks and functions
abbrev pub names_in : Code → Tables
names_in p = record { locks = p.locks; names = func_names p.funcs }

-- the name that has a number
abbrev pub name_at : List (List ℕ) → ℕ → List ℕ
name_at names i = slice_index_or names i []

-- an instruction with the name of its function or lock in place of the number
abbrev pub named_op : Tables → Op → Draft
named_op t (op.Call f) = Refers naming.Call (name_at t.names f)
named_op t (op.Lock l) = Refers naming.Lock (name_at t.locks l.0)
named_op t (op.Unlock l) = Refers naming.Unlock (name_at t.locks l.0)
named_op t (op.TryLock l) = Refers naming.TryLock (name_at t.locks l.0)
named_op t o = Ready o

-- the same of a function and of a thread
abbrev pub named_function : Tables → Function → DraftFunction
named_function t f = record { name = f.name; locals = f.locals; drafts = map (named_op t) f.ops }

abbrev pub named_start : Tables → Start → DraftStart
named_start t s = record { func = name_at t.names s.func; argument = s.argument }

-- the line of a thread
abbrev pub thread_line : DraftStart → Statement
thread_line s = ThreadLine s.func s.argument

-- what the text of a program says
abbrev pub named : Code → Source
named p = record { locks = p.locks; funcs = map (named_function (names_in p)) p.funcs; threads = map (named_start (names_in p)) p.threads }

-- the text of a program
abbrev pub program_text : Code → List ℕ
program_text p = source_text (named p)

-- the first word of an instruction
abbrev pub op_word : Op → List ℕ
op_word o = slice_index_or (op_words o) 0 []

-- a number that an instruction pushes is a signed one of 64 bits
abbrev pub HasWidth : Op → Type 0
HasWidth (op.Push n) = FitsSigned w64 n
HasWidth _ = ⊤

-- what holds of every program whose numbers are signed ones of 64 bits
pub record IsPrintable (p : Code) : Type 0 where
  pub program : IsProgram p
  pub ops : All (λ f. All HasWidth f.ops) p.funcs
  pub arguments : All (λ s. FitsSigned w64 s.argument) p.threads
