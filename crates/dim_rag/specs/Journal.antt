-- How entries are kept: in brief, with their frames and their causes in lists beside.
use Rattle.std.specs.Prelude.{ℕ, ◌+◌, ◌*◌, ◌<◌, ◌≤◌, ⊤, ◌^◌, List, [], ◌∷◌, length, map, take, drop, slice_index_or, All}
use Rattle.dim_base.specs.declared.Tid.{Tid}
use Rattle.dim_base.specs.declared.Lid.{Lid}
use Rattle.dim_stack.specs.declared.Frame.{Frame}
use Rattle.dim_rag.specs.declared.entry.Entry.{Entry}
use Rattle.dim_rag.specs.declared.entry.Entry.TheVariants.{Go, Yield, Got, Free, Took, Miss, End, Break, Learn}
use Rattle.dim_rag.specs.declared.entry.MissWhy.{MissWhy}
use Rattle.dim_rag.specs.declared.entry.MissWhy.TheVariants.{Busy, Avoid}
use Rattle.dim_rag.specs.declared.journal.brief.Cause.{Cause}
use Rattle.dim_rag.specs.declared.journal.brief.Brief.{Brief}
use Rattle.dim_rag.specs.declared.journal.brief.Brief.TheVariants as brief

-- what is seen of a journal: its entries, oldest first, and for how many more there is room
pub record Recorded : Type 0 where
  pub entries : List Entry
  pub spare : ℕ

-- so many frames from a place on
abbrev pub frames_at : List Frame → ℕ → ℕ → List Frame
frames_at fs start len = take len (drop start fs)

-- a cause by its number
abbrev pub cause_at : List Cause → ℕ → Cause
cause_at cs c = slice_index_or cs c record { sig = 0; births = [] }

-- an entry in full by its number
abbrev pub wide_at : List Entry → ℕ → Entry
wide_at ws w = slice_index_or ws w (Learn [])

-- the thread with a number
abbrev pub thread : ℕ → Tid
thread t = record { 0 = t }

-- the lock with a number
abbrev pub lock : ℕ → Lid
lock l = record { 0 = l }

-- the entry that a brief one stands for
abbrev pub entry_in_full : List Frame → List Cause → List Entry → Brief → Entry
entry_in_full fs cs ws (brief.Went len t l start) = Go (thread t) (lock l) (frames_at fs start len)
entry_in_full fs cs ws (brief.Yielded len t l start c) = Yield (thread t) (lock l) (frames_at fs start len) (cause_at cs c).sig (cause_at cs c).births
entry_in_full fs cs ws (brief.Obtained t l) = Got (thread t) (lock l)
entry_in_full fs cs ws (brief.Freed t l) = Free (thread t) (lock l)
entry_in_full fs cs ws (brief.Took len t l start) = Took (thread t) (lock l) (frames_at fs start len)
entry_in_full fs cs ws (brief.MissedBusy len t l start holder) = Miss (thread t) (lock l) (frames_at fs start len) (Busy holder)
entry_in_full fs cs ws (brief.MissedAvoid len t l start c) = Miss (thread t) (lock l) (frames_at fs start len) (Avoid record { sig = (cause_at cs c).sig; births = (cause_at cs c).births })
entry_in_full fs cs ws (brief.Ended t why) = End (thread t) why
entry_in_full fs cs ws (brief.Broken t set) = Break set (thread t)
entry_in_full fs cs ws (brief.Learnt c) = Learn (cause_at cs c).births
entry_in_full fs cs ws (brief.Wide w) = wide_at ws w

-- the entries that these brief ones stand for
abbrev pub entries_of : List Frame → List Cause → List Entry → List Brief → List Entry
entries_of fs cs ws briefs = map (entry_in_full fs cs ws) briefs

-- the frames that an entry needs
abbrev pub stack_of : Entry → List Frame
stack_of (Go t l s) = s
stack_of (Yield t l s sig b) = s
stack_of (Got t l) = []
stack_of (Free t l) = []
stack_of (Took t l s) = s
stack_of (Miss t l s why) = s
stack_of (End t why) = []
stack_of (Break set t) = []
stack_of (Learn b) = []

-- the causes that a miss needs
abbrev pub causes_of_miss : MissWhy → List Cause
causes_of_miss (Busy holder) = []
causes_of_miss (Avoid named) = record { sig = named.sig; births = named.births } ∷ []

-- the causes that an entry needs, one at most; a Learn's names no signature
abbrev pub causes_of : Entry → List Cause
causes_of (Go t l s) = []
causes_of (Yield t l s sig b) = record { sig = sig; births = b } ∷ []
causes_of (Got t l) = []
causes_of (Free t l) = []
causes_of (Took t l s) = []
causes_of (Miss t l s why) = causes_of_miss why
causes_of (End t why) = []
causes_of (Break set t) = []
causes_of (Learn b) = record { sig = 0; births = b } ∷ []

-- a miss in brief
abbrev pub brief_of_miss : ℕ → ℕ → ℕ → ℕ → ℕ → MissWhy → Brief
brief_of_miss len t l n m (Busy holder) = brief.MissedBusy len t l n holder
brief_of_miss len t l n m (Avoid named) = brief.MissedAvoid len t l n m

-- an entry in brief, behind n frames and m causes, where its thread and its lock have numbers below 256
abbrev pub brief_of : ℕ → ℕ → Entry → Brief
brief_of n m (Go t l s) = brief.Went (length s) t.0 l.0 n
brief_of n m (Yield t l s sig b) = brief.Yielded (length s) t.0 l.0 n m
brief_of n m (Got t l) = brief.Obtained t.0 l.0
brief_of n m (Free t l) = brief.Freed t.0 l.0
brief_of n m (Took t l s) = brief.Took (length s) t.0 l.0 n
brief_of n m (Miss t l s why) = brief_of_miss (length s) t.0 l.0 n m why
brief_of n m (End t why) = brief.Ended t.0 why
brief_of n m (Break set t) = brief.Broken t.0 set
brief_of n m (Learn b) = brief.Learnt m

-- 1 to 32 frames from a place on are among n
abbrev pub AreIn : ℕ → ℕ → ℕ → Type 0
AreIn n start len = (1 ≤ len) × ((len ≤ 32) × (start + len ≤ n))

-- the frames that a brief entry names, if it does, are among n
abbrev pub HasFrames : ℕ → Brief → Type 0
HasFrames n (brief.Went len t l start) = AreIn n start len
HasFrames n (brief.Yielded len t l start c) = AreIn n start len
HasFrames n (brief.Took len t l start) = AreIn n start len
HasFrames n (brief.MissedBusy len t l start holder) = AreIn n start len
HasFrames n (brief.MissedAvoid len t l start c) = AreIn n start len
HasFrames n _ = ⊤

-- the cause that a brief entry names, if it does, is among m
abbrev pub HasCause : ℕ → Brief → Type 0
HasCause m (brief.Yielded len t l start c) = c < m
HasCause m (brief.MissedAvoid len t l start c) = c < m
HasCause m (brief.Learnt c) = c < m
HasCause m _ = ⊤

-- the entry in full that a brief one names, if it does, is among w
abbrev pub HasWide : ℕ → Brief → Type 0
HasWide w (brief.Wide i) = i < w
HasWide w _ = ⊤

-- all that is named is there, and there is room for the frames and the causes of so many more
-- entries; each frame's place is below 2 ^ 32, these included
pub record IsJournal (spare briefs_room frames_room causes_room : ℕ) (briefs : List Brief) (frames : List Frame) (causes : List Cause) (wide : List Entry) : Type 0 where
  pub has_frames : All (HasFrames (length frames)) briefs
  pub has_causes : All (HasCause (length causes)) briefs
  pub has_wide : All (HasWide (length wide)) briefs
  pub few : length causes ≤ length briefs
  pub few_wide : length wide ≤ length briefs
  pub few_frames : length frames + 32 * spare < 2 ^ 32
  pub small : length briefs + spare < 2 ^ 32
  pub room : length briefs + spare ≤ briefs_room
  pub room_frames : length frames + 32 * spare ≤ frames_room
  pub room_causes : length causes + spare ≤ causes_room
