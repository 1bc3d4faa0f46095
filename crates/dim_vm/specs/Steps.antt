-- What a step shows of the table.
use Rattle.std.specs.Prelude.{◌≡◌, ◌≢◌, ℕ, ◌<◌, ◌≤◌, ◌+◌, Bool, if◌then◌else◌, ⊤, List, length, Result, Ok, Err, ℤ, pos, nat_lt}
use Rattle.dim_base.specs.declared.Lid.{Lid}
use Rattle.dim_asm.specs.Code.{Code, lock_count}
use Rattle.dim_rag.specs.declared.entry.Why.TheVariants.{Spent}
use Rattle.dim_vm.specs.declared.trap.Trap.{Trap}
use Rattle.dim_vm.specs.declared.trap.Trap.TheVariants.{Over, Relock, NotOwner}
use Rattle.dim_vm.specs.declared.frames.CallFrame.{CallFrame}
use Rattle.dim_vm.specs.declared.context.Context.{Context}
use Rattle.dim_vm.specs.declared.step.Step.{Step}
use Rattle.dim_vm.specs.declared.step.Step.TheVariants as step
use Rattle.dim_vm.specs.Frames.{top_frame, advanced}
use Rattle.dim_vm.specs.Table.{Next, Plain, Ends, Wants, Retakes, Frees, Tries, times, on, dropped, pushed}

-- what an instruction leaves that takes or frees a lock, with the top operand dropped or not
abbrev pub gone : Bool → Context → Context
gone drops b = on (if drops then dropped b else b)

-- the next thing after b that a step tells which leaves b'
abbrev pub told_by : Context → Step → Context → Next
told_by b step.Plain b' = Plain b'
told_by b (step.Ends why) b' = Ends why
told_by b (step.Wants l drops) b' = Wants l (gone drops b)
told_by b (step.Retakes l drops) b' = Retakes l (gone drops b)
told_by b (step.Frees l drops) b' = Frees l (gone drops b)
told_by b (step.Tries l) b' = Tries l (on (pushed (pos 1) b)) (on (pushed (pos 0) b))

-- only a plain instruction is made
abbrev pub Keeps : Context → Step → Context → Type 0
Keeps b step.Plain b' = ⊤
Keeps b _ b' = b' ≡ b

-- a step has shown that n is next after b, and left b'
pub record Shows (b : Context) (n : Next) (step : Step) (b' : Context) : Type 0 where
  pub is : n ≡ told_by b step b'
  pub keeps : Keeps b step b'

-- a row was made of b, and left b'; or it trapped
abbrev pub IsRow : Context → Result Next Trap → Result Step Trap → Context → Type 0
IsRow b r (Ok s) b' = (r ≡ Ok (told_by b s b')) × Keeps b s b'
IsRow b r (Err k) b' = (r ≡ Err k) × (b' ≡ b)

-- what comes after an instruction that was made, or trapped
abbrev pub IsAfter : List CallFrame → Result (Unit {0}) Trap → Result Step Trap → List CallFrame
    → Type 0
IsAfter fs (Ok u) r fs' = (r ≡ Ok step.Plain) × (fs' ≡ advanced fs)
IsAfter fs (Err k) r fs' = (r ≡ Err k) × (fs' ≡ fs)

-- what an instruction about a lock shows, by what is held
abbrev pub lock_shows : List ℕ → Lid → Bool → Result Step Trap
lock_shows holds l drops =
    if nat_lt (times holds l.0) 255 then (if nat_lt 0 (times holds l.0) then Ok (step.Retakes l drops) else Ok (step.Wants l drops)) else Err Relock

abbrev pub unlock_shows : List ℕ → Lid → Bool → Result Step Trap
unlock_shows holds l drops = if nat_lt 0 (times holds l.0) then Ok (step.Frees l drops) else Err NotOwner

abbrev pub tried_shows : Lid → List ℤ → Result Step Trap
tried_shows l ns = if nat_lt (length ns) 256 then Ok (step.Tries l) else Err Over

abbrev pub try_shows : List ℕ → Lid → List ℤ → Result Step Trap
try_shows holds l ns = if nat_lt (times holds l.0) 255 then tried_shows l ns else Err Relock

-- how often a lock is held that isn't held, that may be taken, that is held and may be taken once
-- more, and that may be freed
abbrev pub IsFree : ℕ → Type 0
IsFree n = n ≡ 0

abbrev pub IsOpen : ℕ → Type 0
IsOpen n = n < 255

abbrev pub IsAgain : ℕ → Type 0
IsAgain n = (1 ≤ n) × (n < 255)

abbrev pub IsHeld : ℕ → Type 0
IsHeld n = 1 ≤ n

-- a lock that is next, held so often
pub record IsAtLock (p : Code) (holds : List ℕ) (b : Context) (l : Lid) (Held : ℕ → Type 0) : Type 0 where
  pub in_range : l.0 < lock_count p
  pub low : l.0 < 256
  pub held : Held (times holds l.0)
  pub at : (top_frame b.frames).at < 65536

-- what is known of the next thing
abbrev pub IsFound : Code → List ℕ → Context → Next → Type 0
IsFound p holds b (Plain b') = b'.said ≤ b.said + 1
IsFound p holds b (Ends why) = why ≢ Spent
IsFound p holds b (Wants l after) = IsAtLock p holds b l IsFree
IsFound p holds b (Retakes l after) = IsAtLock p holds b l IsAgain
IsFound p holds b (Frees l after) = IsAtLock p holds b l IsHeld
IsFound p holds b (Tries l took missed) = IsAtLock p holds b l IsOpen × (length b.operands < 256)

-- what a step has paid
abbrev pub paid : Step → ℕ
paid step.Plain = 1
paid _ = 0
