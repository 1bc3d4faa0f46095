-- Which lines may stand at a place, and which sources have a text.
use Rattle.std.specs.Prelude.{◌≡◌, ◌≢◌, ◌≤◌, ⊤, Bool, true, false, List, [], ◌∷◌, length, FitsSigned}
use Rattle.std.specs.Int.{w64}
use Rattle.std.specs.List.{AllByRecursion}
use Rattle.dim_text.specs.Naming.{IsName}
use Rattle.dim_asm.specs.declared.op.Op.{Op}
use Rattle.dim_asm.specs.declared.op.Op.TheVariants as op
use Rattle.dim_asm.specs.declared.reader.Stage.{Stage}
use Rattle.dim_asm.specs.declared.reader.Stage.TheVariants as stage
use Rattle.dim_asm.specs.Code.{has_name, AreNames}
use Rattle.dim_asm.specs.Source.{Source, Draft, Ready, Refers, DraftFunction, DraftStart, Statement, Head, LockLine, FuncLine, OpLine, EndLine, ThreadLine, Close, names_of, draft_count, last_size}
use Rattle.dim_asm.specs.Judging.{State, nothing}

-- which lines may follow one another
abbrev pub may_follow : Stage → Statement → Bool
may_follow stage.Head Head = true
may_follow stage.Locks (LockLine name) = true
may_follow stage.Locks (FuncLine name locals) = true
may_follow stage.Function (OpLine draft) = true
may_follow stage.Function EndLine = true
may_follow stage.Functions (FuncLine name locals) = true
may_follow stage.Functions (ThreadLine func argument) = true
may_follow stage.Threads (ThreadLine func argument) = true
may_follow stage.Threads Close = true
may_follow _ _ = false

-- an instruction whose argument, if it has one, is a number of its range
abbrev pub IsReady : Op → Type 0
IsReady (op.Push n) = FitsSigned w64 n
IsReady (op.Jmp k) = k ≤ 65536
IsReady (op.Jz k) = k ≤ 65536
IsReady (op.GetL i) = i ≤ 255
IsReady (op.PutL i) = i ≤ 255
IsReady (op.Call f) = ⊥
IsReady (op.Lock l) = ⊥
IsReady (op.Unlock l) = ⊥
IsReady (op.TryLock l) = ⊥
IsReady _ = ⊤

abbrev pub IsDraft : Draft → Type 0
IsDraft (Ready op) = IsReady op
IsDraft (Refers naming name) = IsName name

-- what a line says is in its form, and the program has room for it
abbrev pub HasPlace : Source → Statement → Type 0
HasPlace s Head = ⊤
HasPlace s (LockLine name) = IsName name × (length s.locks ≢ 256) × (has_name s.locks name ≡ false)
HasPlace s (FuncLine name locals) = IsName name × (locals ≤ 16) × (length s.funcs ≢ 256)
    × (has_name (names_of s) name ≡ false)
HasPlace s (OpLine draft) = IsDraft draft × (draft_count s.funcs ≢ 65536)
HasPlace s EndLine = last_size s.funcs ≢ 0
HasPlace s (ThreadLine func argument) = IsName func × FitsSigned w64 argument
    × (length s.threads ≢ 32)
HasPlace s Close = ⊤

-- a function as it stands in a text, without its end and with it
pub record IsOpen (f : DraftFunction) : Type 0 where
  pub few_locals : f.locals ≤ 16
  pub drafts : AllByRecursion IsDraft f.drafts

pub record IsStart (t : DraftStart) : Type 0 where
  pub func : IsName t.func
  pub argument : FitsSigned w64 t.argument

-- each but the last has an instruction
abbrev pub AreEnded : List DraftFunction → Type 0
AreEnded [] = ⊤
AreEnded (f ∷ []) = ⊤
AreEnded (f ∷ g ∷ funcs) = (1 ≤ length f.drafts) × AreEnded (g ∷ funcs)

-- each has an instruction
abbrev pub AreFilled : List DraftFunction → Type 0
AreFilled funcs = AllByRecursion (λ f. 1 ≤ length f.drafts) funcs

-- what has been read by this stage
abbrev pub IsAt : Stage → Source → Type 0
IsAt stage.Head s = s ≡ nothing
IsAt stage.Locks s = (s.funcs ≡ []) × (s.threads ≡ [])
IsAt stage.Function s = (1 ≤ length s.funcs) × AreEnded s.funcs × (s.threads ≡ [])
IsAt stage.Functions s = (1 ≤ length s.funcs) × AreFilled s.funcs × (s.threads ≡ [])
IsAt stage.Threads s = (1 ≤ length s.funcs) × AreFilled s.funcs × (1 ≤ length s.threads)
IsAt stage.Closed s = (1 ≤ length s.funcs) × AreFilled s.funcs × (1 ≤ length s.threads)

-- what holds of every source, however far it has been read
pub record IsFront (s : Source) : Type 0 where
  pub few_locks : length s.locks ≤ 256
  pub few_funcs : length s.funcs ≤ 256
  pub few_drafts : draft_count s.funcs ≤ 65536
  pub few_threads : length s.threads ≤ 32
  pub lock_names : AreNames s.locks
  pub names : AreNames (names_of s)
  pub functions : AllByRecursion IsOpen s.funcs
  pub starts : AllByRecursion IsStart s.threads

-- what holds of every state that reading comes to
pub record FitsStage (s : State) : Type 0 where
  pub front : IsFront s.source
  pub at : IsAt s.stage s.source

-- what holds of every source that has been read to its end
pub record IsSource (s : Source) : Type 0 where
  pub front : IsFront s
  pub whole : IsAt stage.Closed s
