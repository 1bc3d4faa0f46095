-- What a thread does next: the table of the instructions.
use Rattle.std.specs.Prelude.{ℕ, ◌+◌, nat_lt, if◌then◌else◌, List, [], ◌∷◌, length, slice_index_or, Option, Some, None, Result, Ok, Err, ℤ, pos}
use Rattle.dim_base.specs.declared.Lid.{Lid}
use Rattle.dim_asm.specs.declared.op.Op.{Op}
use Rattle.dim_asm.specs.declared.op.Op.TheVariants as op
use Rattle.dim_asm.specs.Code.{Code, op_at, locals_of, lock_count}
use Rattle.dim_rag.specs.declared.entry.Why.{Why}
use Rattle.dim_rag.specs.declared.entry.Why.TheVariants.{Done, Trapped}
use Rattle.dim_vm.specs.declared.trap.Trap.{Trap}
use Rattle.dim_vm.specs.declared.trap.Trap.TheVariants.{Over, Local, Relock, NotOwner, FellOff}
use Rattle.dim_vm.specs.declared.context.Context.{Context}
use Rattle.dim_vm.specs.Tops.{rest}
use Rattle.dim_vm.specs.Trap.{number, ◌>>=◌}
use Rattle.dim_vm.specs.Operands.{top, push, pop, duplicate, swap, calculate, sum, difference, is_less, is_equal, is_zero, lock_operand}
use Rattle.dim_vm.specs.Frames.{entered, top_frame, at_offset, advanced, local, with_local, enter}

-- at the first instruction of f, with n as the one operand
abbrev pub begun : ℕ → ℤ → Context
begun f n = record { frames = entered f ∷ []; operands = n ∷ []; said = 0; last = pos 0 }

-- a plain instruction, with what it leaves; an ending; or an instruction about a lock, with the
-- lock and what it leaves: at a Got, at a Took of a lock that is held, at a Free, and at a Took and
-- a Miss of a lock that is tried
pub data Next : Type 0 where
  Plain : Context → Next
  Ends : Why → Next
  Wants : Lid → Context → Next
  Retakes : Lid → Context → Next
  Frees : Lid → Context → Next
  Tries : Lid → Context → Context → Next

-- how often a lock is held, by the table of holds
abbrev pub times : List ℕ → ℕ → ℕ
times holds l = slice_index_or holds l 0

abbrev pub jump : ℕ → Context → Context
jump k b = record b { frames = at_offset k b.frames }

-- at the next instruction
abbrev pub on : Context → Context
on b = record b { frames = advanced b.frames }

abbrev pub with_operands : List ℤ → Context → Context
with_operands ns b = record b { operands = ns }

-- without the newest operand
abbrev pub dropped : Context → Context
dropped b = with_operands (rest b.operands) b

-- with one operand more
abbrev pub pushed : ℤ → Context → Context
pushed n b = with_operands (n ∷ b.operands) b

-- on, with what an instruction leaves of the operands
abbrev pub operated : Context → Result (List ℤ) Trap → Result Next Trap
operated b r = r >>= λ ns. Ok (Plain (on (with_operands ns b)))

-- whether the function has a local
abbrev pub has_local : Code → ℕ → Context → Result (Unit {0}) Trap
has_local p i b = if nat_lt i (locals_of p (top_frame b.frames).func) then Ok tt else Err Local

abbrev pub get_local : Code → ℕ → Context → Result Next Trap
get_local p i b = has_local p i b >>= λ u. operated b (push (local i b.frames) b.operands)

abbrev pub put_local : Code → ℕ → Context → Result Next Trap
put_local p i b = has_local p i b >>= λ u. top b.operands >>= λ n. Ok (Plain (on (record (dropped b) { frames = with_local i n b.frames })))

abbrev pub call : ℕ → Context → Result Next Trap
call f b = enter f b.frames >>= λ fs. Ok (Plain (record b { frames = fs }))

abbrev pub say : Context → Result Next Trap
say b = top b.operands >>= λ n. Ok (Plain (on (record b { operands = rest b.operands; said = b.said + 1; last = n })))

abbrev pub jump_if_zero : ℕ → Context → Result Next Trap
jump_if_zero k b = top b.operands >>= λ n. Ok (Plain (if is_zero n then jump k (dropped b) else on (dropped b)))

-- the thread ends in its outermost call
abbrev pub return : Context → Next
return b = if nat_lt 1 (length b.frames) then Plain (on (record b { frames = rest b.frames })) else Ends Done

-- a lock that is held 255 times, and no more, isn't taken again
abbrev pub lock_next : List ℕ → Lid → Context → Result Next Trap
lock_next holds l after =
    if nat_lt (times holds l.0) 255 then (if nat_lt 0 (times holds l.0) then Ok (Retakes l after) else Ok (Wants l after)) else Err Relock

abbrev pub unlock_next : List ℕ → Lid → Context → Result Next Trap
unlock_next holds l after = if nat_lt 0 (times holds l.0) then Ok (Frees l after) else Err NotOwner

abbrev pub tried_next : Lid → Context → Result Next Trap
tried_next l b = if nat_lt (length b.operands) 256 then Ok (Tries l (on (pushed (pos 1) b)) (on (pushed (pos 0) b))) else Err Over

abbrev pub try_next : List ℕ → Lid → Context → Result Next Trap
try_next holds l b = if nat_lt (times holds l.0) 255 then tried_next l b else Err Relock

-- the row of an instruction
abbrev pub row : Code → List ℕ → Context → Op → Result Next Trap
row p holds b (op.Push n) = operated b (push n b.operands)
row p holds b op.Pop = operated b (pop b.operands)
row p holds b op.Dup = operated b (duplicate b.operands)
row p holds b op.Swap = operated b (swap b.operands)
row p holds b op.Add = operated b (calculate sum b.operands)
row p holds b op.Sub = operated b (calculate difference b.operands)
row p holds b op.Lt = operated b (calculate is_less b.operands)
row p holds b op.Eq = operated b (calculate is_equal b.operands)
row p holds b (op.Jmp k) = Ok (Plain (jump k b))
row p holds b (op.Jz k) = jump_if_zero k b
row p holds b (op.GetL i) = get_local p i b
row p holds b (op.PutL i) = put_local p i b
row p holds b (op.Call f) = call f b
row p holds b op.Ret = Ok (return b)
row p holds b (op.Lock l) = lock_next holds l (on b)
row p holds b op.LockX = lock_operand (lock_count p) b.operands >>= λ l. lock_next holds l (on (dropped b))
row p holds b (op.Unlock l) = unlock_next holds l (on b)
row p holds b op.UnlockX = lock_operand (lock_count p) b.operands >>= λ l. unlock_next holds l (on (dropped b))
row p holds b (op.TryLock l) = try_next holds l b
row p holds b op.Say = say b
row p holds b op.Halt = Ok (Ends Done)

-- the row of the instruction that is there
abbrev pub row_at : Code → List ℕ → Context → Option Op → Result Next Trap
row_at p holds b None = Err FellOff
row_at p holds b (Some o) = row p holds b o

-- a trap ends the thread
abbrev pub ended_by : Result Next Trap → Next
ended_by (Ok n) = n
ended_by (Err k) = Ends (Trapped (number k))

-- the row of the instruction that a context is at
abbrev pub row_here : Code → List ℕ → Context → Result Next Trap
row_here p holds b = row_at p holds b (op_at p (top_frame b.frames).func (top_frame b.frames).at)

-- the next thing of a thread with units, by what it holds
abbrev pub next : Code → List ℕ → Context → Next
next p holds b = ended_by (row_here p holds b)
