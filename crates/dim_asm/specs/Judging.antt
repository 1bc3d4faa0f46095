-- The first pass: what a line says, by what was read before it, or the first kind of fault that
-- applies to it.
use Rattle.std.specs.Prelude.{ℕ, ◌==◌, List, [], ◌∷◌, length, Result, Ok, Err, if◌then◌else◌, codes}
use Rattle.std.specs.Str.{bytes_eq}
use Rattle.dim_text.specs.Cuts.{words_of, lines_of}
use Rattle.dim_text.specs.Numerals.{number_of, signed_of}
use Rattle.dim_text.specs.Naming.{name_of}
use Rattle.dim_text.specs.Reading.{◌>>=◌, or_else, read_from}
use Rattle.dim_text.specs.Words.{unless, one_word, two_words}
use Rattle.dim_asm.specs.declared.op.Op.TheVariants as op
use Rattle.dim_asm.specs.declared.fault.AsmKind.{AsmKind}
use Rattle.dim_asm.specs.declared.fault.AsmKind.TheVariants.{Word, Number, Name, Double, Shape, Limit}
use Rattle.dim_asm.specs.declared.fault.AsmFault.{AsmFault}
use Rattle.dim_asm.specs.declared.mnemonic.Mnemonic.{Mnemonic}
use Rattle.dim_asm.specs.declared.mnemonic.Mnemonic.TheVariants.{Bare, Push, Counts, Names}
use Rattle.dim_asm.specs.declared.reader.Stage.{Stage}
use Rattle.dim_asm.specs.declared.reader.Stage.TheVariants as stage
use Rattle.dim_asm.specs.Faults.{fault}
use Rattle.dim_asm.specs.Code.{has_name}
use Rattle.dim_asm.specs.Source.{Source, Draft, Ready, Refers, Statement, Head, LockLine, FuncLine, OpLine, EndLine, ThreadLine, Close, names_of, draft_count, last_size, with_statement}
use Rattle.dim_asm.specs.Table.{mnemonic_of, most_of, counted}

abbrev pub head : List ℕ
head = codes "dim program 1"

-- how far the reading has come, and what was read
pub record State : Type 0 where
  pub stage : Stage
  pub source : Source

-- no word behind the first one
abbrev pub no_word : List (List ℕ) → Result (Unit {0}) AsmKind
no_word [] = Ok tt
no_word (word ∷ words) = Err Shape

-- `lock NAME`
unfoldable pub lock_line : Source → List (List ℕ) → Result Statement AsmKind
lock_line s words = do
  word ← one_word words Shape
  _ ← unless (length s.locks == 256) Limit
  name ← or_else (name_of word) Name
  _ ← unless (has_name s.locks name) Double
  Ok (LockLine name)

-- `func NAME LOCALS`
unfoldable pub func_line : Source → List (List ℕ) → Result Statement AsmKind
func_line s words = do
  pair ← two_words words Shape
  _ ← unless (length s.funcs == 256) Limit
  name ← or_else (name_of pair.0) Name
  locals ← or_else (number_of 16 pair.1) Number
  _ ← unless (has_name (names_of s) name) Double
  Ok (FuncLine name locals)

-- `thread FUNCTION ARGUMENT`
unfoldable pub thread_line : Source → List (List ℕ) → Result Statement AsmKind
thread_line s words = do
  pair ← two_words words Shape
  _ ← unless (length s.threads == 32) Limit
  func ← or_else (name_of pair.0) Name
  argument ← or_else (signed_of pair.1) Number
  Ok (ThreadLine func argument)

-- the argument of an instruction: the empty word where it has none
abbrev pub argument_word : Mnemonic → List (List ℕ) → Result (List ℕ) AsmKind
argument_word (Bare op) words = no_word words >>= λ _. Ok []
argument_word Push words = one_word words Shape
argument_word (Counts counting) words = one_word words Shape
argument_word (Names naming) words = one_word words Shape

unfoldable pub draft_of : Mnemonic → List ℕ → Result Draft AsmKind
draft_of (Bare op) word = Ok (Ready op)
draft_of Push word = or_else (signed_of word) Number >>= λ n. Ok (Ready (op.Push n))
draft_of (Counts counting) word = or_else (number_of (most_of counting) word) Number >>= λ n. Ok (Ready (counted counting n))
draft_of (Names naming) word = or_else (name_of word) Name >>= λ name. Ok (Refers naming name)

-- an instruction
unfoldable pub op_line : Source → List ℕ → List (List ℕ) → Result Statement AsmKind
op_line s first words = do
  mnemonic ← or_else (mnemonic_of first) Word
  word ← argument_word mnemonic words
  _ ← unless (draft_count s.funcs == 65536) Limit
  draft ← draft_of mnemonic word
  Ok (OpLine draft)

-- `end` of a function
unfoldable pub end_line : Source → List (List ℕ) → Result Statement AsmKind
end_line s words = do
  _ ← no_word words
  _ ← unless (last_size s.funcs == 0) Shape
  Ok EndLine

-- `end program`
unfoldable pub close_line : List (List ℕ) → Result Statement AsmKind
close_line [] = Err Shape
close_line (word ∷ []) = if bytes_eq word (codes "program") then Ok Close else Err Shape
close_line (word ∷ next ∷ words) = Err Shape

-- which first words may stand at this place
unfoldable pub after_locks : Source → List (List ℕ) → Result Statement AsmKind
after_locks s [] = Err Word
after_locks s (first ∷ words) =
    if bytes_eq first (codes "lock") then lock_line s words
    else (if bytes_eq first (codes "func") then func_line s words
    else Err Word)

unfoldable pub in_function : Source → List (List ℕ) → Result Statement AsmKind
in_function s [] = Err Word
in_function s (first ∷ words) = if bytes_eq first (codes "end") then end_line s words else op_line s first words

unfoldable pub after_function : Source → List (List ℕ) → Result Statement AsmKind
after_function s [] = Err Word
after_function s (first ∷ words) =
    if bytes_eq first (codes "func") then func_line s words
    else (if bytes_eq first (codes "thread") then thread_line s words
    else Err Word)

unfoldable pub after_thread : Source → List (List ℕ) → Result Statement AsmKind
after_thread s [] = Err Word
after_thread s (first ∷ words) =
    if bytes_eq first (codes "thread") then thread_line s words
    else (if bytes_eq first (codes "end") then close_line words
    else Err Word)

unfoldable pub judged : Stage → Source → List ℕ → Result Statement AsmKind
judged stage.Head s line = if bytes_eq line head then Ok Head else Err Word
judged stage.Locks s line = after_locks s (words_of line)
judged stage.Function s line = in_function s (words_of line)
judged stage.Functions s line = after_function s (words_of line)
judged stage.Threads s line = after_thread s (words_of line)
judged stage.Closed s line = Err Word

-- where the reading stands behind a line
abbrev pub stage_after : Statement → Stage
stage_after Head = stage.Locks
stage_after (LockLine name) = stage.Locks
stage_after (FuncLine name locals) = stage.Function
stage_after (OpLine draft) = stage.Function
stage_after EndLine = stage.Functions
stage_after (ThreadLine func argument) = stage.Threads
stage_after Close = stage.Closed

abbrev pub after : Statement → State → State
after statement s = record { stage = stage_after statement; source = with_statement statement s.source }

-- the state behind a line
unfoldable pub step : State → List ℕ → Result State AsmKind
step s line = judged s.stage s.source line >>= λ statement. Ok (after statement s)

abbrev pub closed : Stage → Source → Result Source AsmKind
closed stage.Closed s = Ok s
closed _ s = Err Word

-- at the end of the text, behind its last line feed
unfoldable pub at_end : State → List ℕ → Result Source AsmKind
at_end s [] = closed s.stage s.source
at_end s (b ∷ last) = Err Word

abbrev pub nothing : Source
nothing = record { locks = []; funcs = []; threads = [] }

-- before the first line
abbrev pub start : State
start = record { stage = stage.Head; source = nothing }

-- what a text says, or the first fault of the first pass
abbrev pub source_of : List ℕ → Result Source AsmFault
source_of bytes = read_from fault step at_end start 1 (lines_of bytes)
