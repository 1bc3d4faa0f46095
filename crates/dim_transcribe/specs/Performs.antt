-- What it is that a program performs what is kept of a log.
use Rattle.std.specs.Prelude.{◌≡◌, ◌≢◌, ℕ, zero, suc, ◌<◌, ◌+◌, ◌-◌, ◌*◌, List, [], ◌∷◌, length, reverse, replicate, take, slice_get, Some, Contains, Vec}
use Rattle.std.specs.declared.alloc.Global.{Global}
use Rattle.dim_base.specs.declared.Tid.{Tid}
use Rattle.dim_base.specs.declared.Lid.{Lid}
use Rattle.dim_stack.specs.declared.Frame.{Frame}
use Rattle.dim_asm.specs.Code.{Code, thread_count}
use Rattle.dim_rag.specs.declared.entry.Entry.{Entry}
use Rattle.dim_rag.specs.declared.entry.Entry.TheVariants.{Go, Got, Free, Took, End}
use Rattle.dim_rag.specs.declared.entry.Why.TheVariants.{Done}
use Rattle.dim_vm.specs.Frames.{stack_of}
use Rattle.dim_vm.specs.Table.{times}
use Rattle.dim_vm.specs.Configuration.{Configuration, holding, led, rested}
use Rattle.dim_vm.specs.Fitting.{OwnWalk}
use Rattle.dim_log.specs.declared.log.Spot.{Spot}
use Rattle.dim_log.specs.declared.log.Log.{Log}
use Rattle.dim_orders.specs.declared.kept.Deed.{Deed}
use Rattle.dim_orders.specs.declared.kept.Deed.TheVariants as deed
use Rattle.dim_orders.specs.declared.kept.Operation.{Operation}
use Rattle.dim_orders.specs.declared.kept.Chain.{Chain}
use Rattle.dim_orders.specs.declared.kept.Kept.{Kept}
use Rattle.dim_transcribe.specs.declared.transcript.StandIn.{StandIn}
use Rattle.dim_transcribe.specs.declared.transcript.Key.{Key}

-- with so many units each thread plays
unfoldable pub most_units : ℕ
most_units = 8192

-- a frame is one of the places, and stands for a spot of the source
abbrev pub IsAt : List StandIn → Frame → Spot → Type 0
IsAt places frame spot = Contains places (record { frame = frame; spot = spot })

-- no two places have the same frame
abbrev pub AreSingle : List StandIn → Type 0
AreSingle places = (i j : ℕ) (a b : StandIn) → i < j → slice_get places i ≡ Some a
    → slice_get places j ≡ Some b → a.frame ≢ b.frame

-- a number by which frames are ordered
abbrev pub key_of : Frame → ℕ
key_of frame = frame.func * 65536 + frame.at

-- frames stand for spots, one for each, before the two outermost, which are the loop's
pub record StandFor (places : List StandIn) (frames : List Frame) (spots : List Spot) : Type 0 where
  pub lengths : length frames ≡ length spots + 2
  pub each : (i : ℕ) (frame : Frame) (spot : Spot) → slice_get frames i ≡ Some frame
      → slice_get spots i ≡ Some spot → IsAt places frame spot

-- frames stand for a stack of the log, or for the innermost 30 frames of a longer one
pub record IsStack (key : Key) (log : Log) (stack : ℕ) (frames : List Frame) : Type 0 where
  pub spots : Vec Spot Global
  pub there : slice_get log.stacks.items stack ≡ Some spots
  pub stand : StandFor key.places.items frames (take 30 spots.items)

-- a lock of the program stands for one of the log
abbrev pub IsLock : Key → ℕ → Lid → Type 0
IsLock key lock l = slice_get key.locks.items l.0 ≡ Some lock

-- lock and stack of the program stand for those of an operation
abbrev pub Means : Key → Log → Operation → Lid → List Frame → Type 0
Means key log o l s = IsLock key o.lock l × IsStack key log o.stack s

-- how often t holds l, where these are its own entries
abbrev pub held_times : Code → Tid → List Entry → Lid → ℕ
held_times p t h l = times (led p t most_units h).holds l.0

-- the calls with which t makes what comes next, where these are its own entries
abbrev pub calls_after : Code → Tid → List Entry → List Frame
calls_after p t h = stack_of p (led p t most_units h).context.frames

-- h, with the entries of a Lock by a thread that holds the lock so often
abbrev pub locked : ℕ → Tid → Lid → List Frame → List Entry → List Entry
locked zero t l s h = Got t l ∷ Go t l s ∷ h
locked (suc n) t l s h = Took t l s ∷ h

-- h, with the entries of an operation that was granted at once: a Lock of a lock that t holds is one
-- hold more. A history has the newest entry first. The entry of an Unlock has no stack: what calls
-- it is made with, `Made` says
abbrev pub made : Code → Tid → Lid → List Frame → Deed → List Entry → List Entry
made p t l s deed.Lock h = locked (held_times p t h l) t l s h
made p t l s deed.Try h = Took t l s ∷ h
made p t l s deed.Unlock h = Free t l ∷ h

-- by its own entries, t made these operations and nothing else, each with the calls that are its
-- stack. Both have the newest first
abbrev pub Made : Code → Key → Log → Tid → List Operation → List Entry → Type 0
Made p key log t [] h = h ≡ []
Made p key log t (o ∷ os) h = (l : Lid) × (s : List Frame) × (before : List Entry)
    × Means key log o l s × Made p key log t os before × (calls_after p t before ≡ s)
    × (h ≡ made p t l s o.deed before)

-- a thread's own entries are the moves of its machine, and lead to a configuration, once the plain
-- instructions that come next are made
pub record Stands (p : Code) (t : Tid) (c : Configuration) (h : List Entry) : Type 0 where
  pub walk : OwnWalk p t most_units h
  pub leads : led p t most_units h ≡ rested p c

-- the same, beside a list that says how often each lock is held
pub record StandsWith (p : Code) (t : Tid) (c : Configuration) (holds : List ℕ) (h : List Entry) : Type 0 where
  pub stands : Stands p t c h
  pub held : holds ≡ c.holds

-- how often each lock is held after an own entry
abbrev pub held_after : Entry → List ℕ → List ℕ
held_after (Got t l) holds = holding l 1 holds
held_after (Free t l) holds = holding l (times holds l.0 - 1) holds
held_after (Took t l s) holds = holding l (suc (times holds l.0)) holds
held_after _ holds = holds

-- a machine stands so that has made none, and holds none
abbrev pub Begins : Code → Tid → Configuration → Type 0
Begins p t c = StandsWith p t c (replicate 256 0) []

-- t has own entries that are the moves of its machine and, but for its end by an instruction, those
-- of some operations
pub record PerformsChain (p : Code) (key : Key) (log : Log) (t : Tid) (os : List Operation) : Type 0 where
  pub own : List Entry
  pub made : Made p key log t (reverse os) own
  pub walk : OwnWalk p t most_units (End t Done ∷ own)

-- thread k performs the operations of chain k
abbrev pub PerformsPart : Code → Key → Log → Kept → ℕ → Type 0
PerformsPart p key log kept k = (chain : Chain) → slice_get kept.chains.items k ≡ Some chain
    → PerformsChain p key log (record { 0 = k }) chain.operations.items

-- each place of the program stands for one of the source; there is a thread for each chain, and each
-- makes the operations of its chain
pub record Performs (p : Code) (key : Key) (log : Log) (kept : Kept) : Type 0 where
  pub places : AreSingle key.places.items
  pub threads : thread_count p ≡ length kept.chains.items
  pub each : (k : ℕ) → PerformsPart p key log kept k
