-- What a door tells of the gate.
use Rattle.std.specs.Prelude.{◌≡◌, ℕ, ◌<◌, ◌≤◌, ◌+◌, ◌-◌, ◌^◌, nat_lt, ⊤, ◌⊎◌, if◌then◌else◌, List, [], ◌∷◌, ◌++◌, Option, Some, None}
use Rattle.dim_base.specs.declared.Tid.{Tid}
use Rattle.dim_base.specs.declared.Lid.{Lid}
use Rattle.dim_stack.specs.declared.Frame.{Frame}
use Rattle.dim_rag.specs.declared.entry.Entry.{Entry}
use Rattle.dim_rag.specs.declared.entry.Entry.TheVariants as entry
use Rattle.dim_rag.specs.declared.entry.MissWhy.TheVariants as miss
use Rattle.dim_rag.specs.declared.entry.Mode.{Mode}
use Rattle.dim_rag.specs.declared.entry.Mode.TheVariants as modes
use Rattle.dim_rag.specs.declared.command.Command.{Command}
use Rattle.dim_rag.specs.declared.command.Command.TheVariants as cmd
use Rattle.dim_rag.specs.declared.command.Reply.{Reply}
use Rattle.dim_rag.specs.declared.command.Reply.TheVariants as reply
use Rattle.dim_rag.specs.History.{past, count, mode}
use Rattle.dim_rag.specs.Fits.{YieldsOn, IsAllowedOn}
use Rattle.dim_vm.specs.Own.{IsYieldingOn}

-- what a door has seen: its thread, the number of locks, the thread's own entries, oldest first,
-- the last reply, for how many more entries there is room, and at how many replies a slice stops
pub record Seen : Type 0 where
  pub thread : Tid
  pub locks : ℕ
  pub own : List Entry
  pub last : Option Reply
  pub left : ℕ
  pub stops : ℕ

-- the mode of the thread by its own entries
abbrev pub mode_in : Seen → Mode
mode_in z = mode z.thread.0 (past z.own)

-- the thread runs, by its own entries
abbrev pub Runs : Seen → Type 0
Runs z = mode_in z ≡ modes.Running

-- the last reply was Woken
abbrev pub WasWoken : Seen → Type 0
WasWoken z = z.last ≡ Some reply.Woken

-- how often the thread holds l by its own entries
abbrev pub times_in : Seen → Lid → ℕ
times_in z l = count z.thread.0 l.0 (past z.own)

-- it holds l, or doesn't, or holds it and may take it once more
abbrev pub Holds : Seen → Lid → Type 0
Holds z l = 1 ≤ times_in z l

abbrev pub Lacks : Seen → Lid → Type 0
Lacks z l = times_in z l ≡ 0

abbrev pub HoldsFew : Seen → Lid → Type 0
HoldsFew z l = Holds z l × (times_in z l ≤ 254)

-- the thread runs, or was told by the last reply that it may ask for l with this stack again
abbrev pub MayAskFor : Seen → Lid → List Frame → Type 0
MayAskFor z l s = Runs z ⊎ (WasWoken z × YieldsOn z.thread.0 l s (past z.own))

-- what a command needs. A gate refuses none that has it
abbrev pub MayAsk : Seen → Command → Type 0
MayAsk z (cmd.Request l s) = (l.0 < z.locks)
    × ((Lacks z l × MayAskFor z l s) ⊎ (HoldsFew z l × Runs z))
MayAsk z (cmd.Acquire l) = (l.0 < z.locks)
    × (IsAllowedOn z.thread.0 l (past z.own) ⊎ IsYieldingOn z.thread.0 l (past z.own))
MayAsk z (cmd.Release l) = (l.0 < z.locks) × Holds z l × Runs z
MayAsk z (cmd.Try l s) = (l.0 < z.locks) × (Lacks z l ⊎ HoldsFew z l) × Runs z
MayAsk z (cmd.End why) = Runs z ⊎ WasWoken z
MayAsk z (cmd.Break set t) = ⊥
MayAsk z (cmd.Learn births) = ⊥

-- the replies to an Acquire, by the thread's mode
abbrev pub IsAcquired : Mode → Reply → Type 0
IsAcquired m reply.Got = ⊤
IsAcquired m (reply.Busy holder) = ⊤
IsAcquired (modes.Yielding l place) (reply.Still cause) = ⊤
IsAcquired (modes.Yielding l place) reply.Woken = ⊤
IsAcquired m _ = ⊥

-- the replies to a command. A lock that is held is taken once more
abbrev pub IsReplyTo : Seen → Command → Reply → Type 0
IsReplyTo z (cmd.Request l s) reply.Go = Lacks z l
IsReplyTo z (cmd.Request l s) (reply.Yield named) = Lacks z l
IsReplyTo z (cmd.Request l s) reply.Took = Holds z l
IsReplyTo z (cmd.Acquire l) r = IsAcquired (mode_in z) r
IsReplyTo z (cmd.Release l) reply.Freed = ⊤
IsReplyTo z (cmd.Try l s) reply.Took = ⊤
IsReplyTo z (cmd.Try l s) (reply.MissBusy holder) = Lacks z l
IsReplyTo z (cmd.Try l s) (reply.MissAvoid named) = Lacks z l
IsReplyTo z (cmd.End why) reply.Ended = ⊤
IsReplyTo z _ _ = ⊥

-- the entry of a reply to a command, if it makes one
abbrev pub entry_by_reply : Tid → Command → Reply → Option Entry
entry_by_reply t (cmd.Request l s) reply.Go = Some (entry.Go t l s)
entry_by_reply t (cmd.Request l s) (reply.Yield named) = Some (entry.Yield t l s named.sig named.births)
entry_by_reply t (cmd.Request l s) reply.Took = Some (entry.Took t l s)
entry_by_reply t (cmd.Acquire l) reply.Got = Some (entry.Got t l)
entry_by_reply t (cmd.Release l) reply.Freed = Some (entry.Free t l)
entry_by_reply t (cmd.Try l s) reply.Took = Some (entry.Took t l s)
entry_by_reply t (cmd.Try l s) (reply.MissBusy holder) = Some (entry.Miss t l s (miss.Busy holder))
entry_by_reply t (cmd.Try l s) (reply.MissAvoid named) = Some (entry.Miss t l s (miss.Avoid named))
entry_by_reply t (cmd.End why) reply.Ended = Some (entry.End t why)
entry_by_reply t _ _ = None

-- a count after one more, which stands still at the end of its type
abbrev pub raised : ℕ → ℕ
raised n = if nat_lt n (2 ^ 64 - 1) then n + 1 else n

-- how many replies were ones at which a slice stops, after one more reply
abbrev pub stops_after : Reply → ℕ → ℕ
stops_after (reply.Busy holder) n = raised n
stops_after (reply.Still cause) n = raised n
stops_after _ n = n

-- what is seen after a reply, with its entry if it makes one
abbrev pub door_after : Seen → Reply → Option Entry → Seen
door_after z r None = record z { last = Some r; stops = stops_after r z.stops }
door_after z r (Some e) = record z { own = z.own ++ e ∷ []; last = Some r; left = z.left - 1; stops = stops_after r z.stops }

-- what is seen after the reply to a command
abbrev pub told : Seen → Command → Reply → Seen
told z cmd r = door_after z r (entry_by_reply z.thread cmd r)

-- a reply at which a slice stops
abbrev pub IsStop : Reply → Type 0
IsStop (reply.Busy holder) = ⊤
IsStop (reply.Still cause) = ⊤
IsStop _ = ⊥

-- a last reply at which a slice stops
abbrev pub IsStopBy : Option Reply → Type 0
IsStopBy None = ⊥
IsStopBy (Some r) = IsStop r

-- of the replies between z and z' one alone is one at which a slice stops, and it is the last
pub record WasStopped (z z' : Seen) : Type 0 where
  pub once : z'.stops ≡ raised z.stops
  pub by : IsStopBy z'.last
