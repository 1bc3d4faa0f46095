-- The one text of what a source says.
use Rattle.std.specs.Prelude.{ℕ, List, [], ◌∷◌, ◌++◌, map, codes}
use Rattle.std.specs.List.{flat_map}
use Rattle.std.specs.Fmt.{decimal, signed_decimal}
use Rattle.dim_text.specs.Cuts.{line_of, ended}
use Rattle.dim_asm.specs.declared.op.Op.{Op}
use Rattle.dim_asm.specs.declared.op.Op.TheVariants as op
use Rattle.dim_asm.specs.declared.mnemonic.Naming.{Naming}
use Rattle.dim_asm.specs.declared.mnemonic.Naming.TheVariants as naming
use Rattle.dim_asm.specs.declared.reader.Stage.{Stage}
use Rattle.dim_asm.specs.declared.reader.Stage.TheVariants as stage
use Rattle.dim_asm.specs.Source.{Source, Draft, Ready, Refers, DraftFunction, Statement, Head, LockLine, FuncLine, OpLine, EndLine, ThreadLine, Close}

-- an instruction word with a name behind it
abbrev pub naming_word : Naming → List ℕ
naming_word naming.Call = codes "CALL"
naming_word naming.Lock = codes "LOCK"
naming_word naming.Unlock = codes "UNLOCK"
naming_word naming.TryLock = codes "TRYLOCK"

-- the word of an instruction, and the argument behind it where it is no name
abbrev pub op_words : Op → List (List ℕ)
op_words (op.Push n) = codes "PUSH" ∷ signed_decimal n ∷ []
op_words op.Pop = codes "POP" ∷ []
op_words op.Dup = codes "DUP" ∷ []
op_words op.Swap = codes "SWAP" ∷ []
op_words op.Add = codes "ADD" ∷ []
op_words op.Sub = codes "SUB" ∷ []
op_words op.Lt = codes "LT" ∷ []
op_words op.Eq = codes "EQ" ∷ []
op_words (op.Jmp k) = codes "JMP" ∷ decimal k ∷ []
op_words (op.Jz k) = codes "JZ" ∷ decimal k ∷ []
op_words (op.GetL i) = codes "GETL" ∷ decimal i ∷ []
op_words (op.PutL i) = codes "PUTL" ∷ decimal i ∷ []
op_words (op.Call f) = naming_word naming.Call ∷ []
op_words op.Ret = codes "RET" ∷ []
op_words (op.Lock l) = naming_word naming.Lock ∷ []
op_words op.LockX = codes "LOCKX" ∷ []
op_words (op.Unlock l) = naming_word naming.Unlock ∷ []
op_words op.UnlockX = codes "UNLOCKX" ∷ []
op_words (op.TryLock l) = naming_word naming.TryLock ∷ []
op_words op.Say = codes "SAY" ∷ []
op_words op.Halt = codes "HALT" ∷ []

abbrev pub draft_words : Draft → List (List ℕ)
draft_words (Ready op) = op_words op
draft_words (Refers naming name) = naming_word naming ∷ name ∷ []

-- a line
abbrev pub spelled : Statement → List ℕ
spelled Head = codes "dim program 1"
spelled (LockLine name) = line_of (codes "lock" ∷ name ∷ [])
spelled (FuncLine name locals) = line_of (codes "func" ∷ name ∷ decimal locals ∷ [])
spelled (OpLine draft) = line_of (draft_words draft)
spelled EndLine = codes "end"
spelled (ThreadLine func argument) = line_of (codes "thread" ∷ func ∷ signed_decimal argument ∷ [])
spelled Close = codes "end program"

-- the lines of a function, without its end and with it
abbrev pub open_function : DraftFunction → List Statement
open_function f = FuncLine f.name f.locals ∷ map (λ d. OpLine d) f.drafts

abbrev pub function_lines : DraftFunction → List Statement
function_lines f = open_function f ++ EndLine ∷ []

-- the lines of functions of which the last has no end yet
abbrev pub open_functions : List DraftFunction → List Statement
open_functions [] = []
open_functions (f ∷ []) = open_function f
open_functions (f ∷ g ∷ funcs) = function_lines f ++ open_functions (g ∷ funcs)

-- the lines down to the last lock, function and thread
abbrev pub down_to_locks : Source → List Statement
down_to_locks s = Head ∷ map (λ name. LockLine name) s.locks

abbrev pub down_to_functions : Source → List Statement
down_to_functions s = down_to_locks s ++ flat_map function_lines s.funcs

abbrev pub down_to_threads : Source → List Statement
down_to_threads s = down_to_functions s ++ map (λ t. ThreadLine t.func t.argument) s.threads

-- the lines that have been read
abbrev pub lines_so_far : Stage → Source → List Statement
lines_so_far stage.Head s = []
lines_so_far stage.Locks s = down_to_locks s
lines_so_far stage.Function s = down_to_locks s ++ open_functions s.funcs
lines_so_far stage.Functions s = down_to_functions s
lines_so_far stage.Threads s = down_to_threads s
lines_so_far stage.Closed s = down_to_threads s ++ Close ∷ []

-- the text of some lines
abbrev pub text_of : List Statement → List ℕ
text_of lines = flat_map (λ line. ended (spelled line)) lines

-- the text of a source: the head, the locks, the functions, the threads and the close
abbrev pub source_text : Source → List ℕ
source_text s = text_of (down_to_threads s ++ Close ∷ [])
