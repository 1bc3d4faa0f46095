-- How a thread stands by a history, which has its newest entry first: what it waits for, and what it
-- holds. The same of a caller, by what its pass has seen.
use Rattle.std.specs.Prelude.{◌≡◌, ℕ, zero, suc, ◌+◌, ◌≤◌, ◌==◌, nat_lt, Bool, true, false, if◌then◌else◌, List, [], Option, Some, None}
use Rattle.dim_base.specs.declared.Lid.{Lid}
use Rattle.dim_stack.specs.declared.Frame.{Frame}
use Rattle.dim_rag.specs.declared.entry.Entry.{Entry}
use Rattle.dim_rag.specs.declared.entry.Mode.{Mode}
use Rattle.dim_rag.specs.declared.entry.Mode.TheVariants.{Running, Allowed, Yielding, Ended}
use Rattle.dim_rag.specs.History.{past, mode, allow, count, latest_wish, Wish}
use Rattle.dim_rag.specs.Edges.{standing}
use Rattle.dim_gate.specs.Known.{stack_of}
use Rattle.dim_run.specs.Callers.{Opening, Known}

-- whether a thread in this mode runs
abbrev pub is_running : Mode → Bool
is_running Running = true
is_running (Allowed l birth) = false
is_running (Yielding l place) = false
is_running (Ended place) = false

-- whether it is allowed on a lock
abbrev pub is_allowed : Mode → Bool
is_allowed Running = false
is_allowed (Allowed l birth) = true
is_allowed (Yielding l place) = false
is_allowed (Ended place) = false

-- the stack of a wish, if there is one
abbrev pub stack_wished : Option Wish → List Frame
stack_wished None = []
stack_wished (Some w) = w.stack

-- the lock and the stack for which a thread waits in this mode: those of its allow edge, or of its
-- latest Yield
abbrev pub wanted_in : ℕ → List Entry → Mode → Option (Lid × List Frame)
wanted_in t h Running = None
wanted_in t h (Allowed l birth) = Some (l, stack_of (allow t l.0 h))
wanted_in t h (Yielding l place) = Some (l, stack_wished (latest_wish t h))
wanted_in t h (Ended place) = None

abbrev pub wanted_at : ℕ → List Entry → Option (Lid × List Frame)
wanted_at t h = wanted_in t h (mode t h)

-- whether t holds l
abbrev pub holds_at : ℕ → ℕ → List Entry → Bool
holds_at t l h = nat_lt 0 (count t l h)

-- how many of the locks below m are held, where this tells which are
abbrev pub held_below : ℕ → (ℕ → Bool) → ℕ
held_below zero held = 0
held_below (suc m) held = held_below m held + (if held m then 1 else 0)

-- how many locks there may be. (It does not unfold by itself: 256 steps would, in each goal.)
unfoldable pub all_locks : ℕ
all_locks = 256

-- how many locks t holds
abbrev pub owed_at : ℕ → List Entry → ℕ
owed_at t h = held_below all_locks (λ l. holds_at t l h)

-- the mode of a caller, what it waits for, whether it holds a lock, and how many it holds
abbrev pub mode_of : Known → Mode
mode_of k = mode k.number (past k.seen)

abbrev pub wanted : Known → Option (Lid × List Frame)
wanted k = wanted_at k.number (past k.seen)

abbrev pub holds : ℕ → Known → Bool
holds l k = holds_at k.number l (past k.seen)

abbrev pub owed : Known → ℕ
owed k = owed_at k.number (past k.seen)

-- nobody owes more than 256 entries
abbrev pub OwedLaw : Type 0
OwedLaw = (k : Known) → owed k ≤ 256

-- the first cause of its Yield, if it yields and all causes stand
abbrev pub still : Opening → Known → Option ℕ
still o k = standing o.constants.threads o.constants.locks k.number (past k.seen)

-- it waits for nothing and holds nothing
pub record IsIdle (k : Known) : Type 0 where
  pub runs : mode_of k ≡ Running
  pub free : (l : ℕ) → holds l k ≡ false

-- it may wait for nothing else than l, asked for with this stack
pub data MayWait (l : Lid) (s : List Frame) (k : Known) : Type 0 where
  runs : mode_of k ≡ Running → MayWait l s k
  waits : wanted k ≡ Some (l, s) → MayWait l s k

-- from one to the other it holds the same locks
pub record HoldsSame (k k' : Known) : Type 0 where
  pub number : k'.number ≡ k.number
  pub each : (m : ℕ) → holds m k' ≡ holds m k
  pub count : owed k' ≡ owed k

-- it has taken l, holds the same locks besides, and runs
pub record HasTaken (l : ℕ) (k k' : Known) : Type 0 where
  pub number : k'.number ≡ k.number
  pub held : holds l k' ≡ true
  pub others : (m : ℕ) → (l == m) ≡ false → holds m k' ≡ holds m k
  pub count : owed k' ≡ owed k + 1
  pub runs : mode_of k' ≡ Running

-- it has given l back, holds the same locks besides, and runs
pub record HasFreed (l : ℕ) (k k' : Known) : Type 0 where
  pub number : k'.number ≡ k.number
  pub free : holds l k' ≡ false
  pub others : (m : ℕ) → (l == m) ≡ false → holds m k' ≡ holds m k
  pub count : owed k' + 1 ≡ owed k
  pub runs : mode_of k' ≡ Running
