-- What a program is to those that run it.
use Rattle.std.specs.Prelude.{◌≡◌, ℕ, ◌<◌, ◌≤◌, ⊤, Bool, false, List, [], ◌∷◌, length, map, sum_by, slice_get, slice_index_or, Option, Some, None, pos, All}
use Rattle.std.specs.List.{list_any, position}
use Rattle.std.specs.Str.{bytes_eq}
use Rattle.dim_text.specs.Naming.{IsName}
use Rattle.dim_asm.specs.declared.op.Op.{Op}
use Rattle.dim_asm.specs.declared.op.Op.TheVariants.{Jmp, Jz, GetL, PutL, Call, Lock, Unlock, TryLock}
use Rattle.dim_asm.specs.declared.start.Start.{Start}

-- a function: its name, how many locals it has, its number in the table of names, and its
-- instructions
pub record Function : Type 0 where
  pub name : List ℕ
  pub locals : ℕ
  pub number : ℕ
  pub ops : List Op

-- the names of the locks, the functions, and where the threads start
pub record Code : Type 0 where
  pub locks : List (List ℕ)
  pub funcs : List Function
  pub threads : List Start

abbrev pub lock_count : Code → ℕ
lock_count p = length p.locks

abbrev pub func_count : Code → ℕ
func_count p = length p.funcs

abbrev pub thread_count : Code → ℕ
thread_count p = length p.threads

-- the instruction of f at an offset, if there is one
abbrev pub op_in : ℕ → Option Function → Option Op
op_in at None = None
op_in at (Some f) = slice_get f.ops at

abbrev pub op_at : Code → ℕ → ℕ → Option Op
op_at p f at = op_in at (slice_get p.funcs f)

-- the number of f in the table of names
abbrev pub number_in : Option Function → ℕ
number_in None = 0
number_in (Some f) = f.number

abbrev pub function_number : Code → ℕ → ℕ
function_number p f = number_in (slice_get p.funcs f)

-- how many locals f has
abbrev pub locals_in : Option Function → ℕ
locals_in None = 0
locals_in (Some f) = f.locals

abbrev pub locals_of : Code → ℕ → ℕ
locals_of p f = locals_in (slice_get p.funcs f)

-- where t starts
abbrev pub start_of : Code → ℕ → Start
start_of p t = slice_index_or p.threads t (record { func = 0; argument = pos 0 })

-- the names of a lock and of a function
abbrev pub lock_name_of : Code → ℕ → List ℕ
lock_name_of p l = slice_index_or p.locks l []

abbrev pub name_in : Option Function → List ℕ
name_in None = []
name_in (Some f) = f.name

abbrev pub func_name_of : Code → ℕ → List ℕ
func_name_of p f = name_in (slice_get p.funcs f)

abbrev pub func_names : List Function → List (List ℕ)
func_names funcs = map (λ f. f.name) funcs

abbrev pub op_count : List Function → ℕ
op_count funcs = sum_by (λ f. length f.ops) funcs

-- the place of a name, and whether it is there
abbrev pub place_of : List (List ℕ) → List ℕ → Option ℕ
place_of names name = position (bytes_eq name) names

abbrev pub has_name : List (List ℕ) → List ℕ → Bool
has_name names name = list_any (bytes_eq name) names

-- each is a name that none of the later ones is
abbrev pub AreNames : List (List ℕ) → Type 0
AreNames [] = ⊤
AreNames (name ∷ names) = IsName name × (has_name names name ≡ false) × AreNames names

-- the lock and the function of an instruction are there
abbrev pub IsFine : ℕ → ℕ → Op → Type 0
IsFine locks funcs (Call f) = f < funcs
IsFine locks funcs (Lock l) = l.0 < locks
IsFine locks funcs (Unlock l) = l.0 < locks
IsFine locks funcs (TryLock l) = l.0 < locks
IsFine locks funcs _ = ⊤

-- a jump stays in its function of this size, or goes behind it, and a local has a small number
abbrev pub IsWithin : ℕ → Op → Type 0
IsWithin size (Jmp k) = k ≤ size
IsWithin size (Jz k) = k ≤ size
IsWithin size (GetL i) = i ≤ 255
IsWithin size (PutL i) = i ≤ 255
IsWithin size _ = ⊤

-- what holds of every function
pub record IsFunction (locks funcs : ℕ) (f : Function) : Type 0 where
  pub some_ops : 1 ≤ length f.ops
  pub few_locals : f.locals ≤ 16
  pub fine : All (IsFine locks funcs) f.ops
  pub within : All (IsWithin (length f.ops)) f.ops

-- what holds of every program
pub record IsProgram (p : Code) : Type 0 where
  pub few_locks : lock_count p ≤ 256
  pub some_funcs : 1 ≤ func_count p
  pub few_funcs : func_count p ≤ 256
  pub few_ops : op_count p.funcs ≤ 65536
  pub some_threads : 1 ≤ thread_count p
  pub few_threads : thread_count p ≤ 32
  pub lock_names : AreNames p.locks
  pub names : AreNames (func_names p.funcs)
  pub functions : All (IsFunction (lock_count p) (func_count p)) p.funcs
  pub starts : All (λ s. s.func < func_count p) p.threads
