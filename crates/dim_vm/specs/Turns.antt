-- What the parts of a turn do.
use Rattle.std.specs.Prelude.{◌≡◌, ℕ, suc, ◌≤◌, ◌+◌, ◌-◌, ⊤, Bool, false, pos}
use Rattle.dim_base.specs.declared.Lid.{Lid}
use Rattle.dim_asm.specs.Code.{Code, lock_count}
use Rattle.dim_rag.specs.declared.command.Command.{Command}
use Rattle.dim_rag.specs.declared.command.Command.TheVariants as cmd
use Rattle.dim_rag.specs.declared.command.Reply.{Reply}
use Rattle.dim_rag.specs.declared.command.Reply.TheVariants as reply
use Rattle.dim_vm.specs.declared.state.State.{State}
use Rattle.dim_vm.specs.declared.state.State.TheVariants.{Running, Waits, Yields}
use Rattle.dim_vm.specs.declared.state.Turn.{Turn}
use Rattle.dim_vm.specs.declared.state.Turn.TheVariants as turn
use Rattle.dim_vm.specs.declared.step.Step.{Step}
use Rattle.dim_vm.specs.Frames.{stack_of}
use Rattle.dim_vm.specs.Table.{on, pushed, times}
use Rattle.dim_vm.specs.Steps.{Shows, IsFound, told_by, paid, gone}
use Rattle.dim_vm.specs.Configuration.{Configuration, next_of, is_ended, holding}
use Rattle.dim_vm.specs.Door.{Seen, WasWoken, WasStopped}
use Rattle.dim_vm.specs.Fitting.{FitsMachine}
use Rattle.dim_vm.specs.Moves.{Whereabouts, Move, Finish}
use Rattle.dim_vm.specs.Slice.{place}

-- a step has shown what is next, and has paid for it if it is plain
pub record IsStep (p : Code) (old : Configuration) (step : Step) (new : Configuration) : Type 0 where
  pub shows : Shows old.context (next_of p old) step new.context
  pub rest : new ≡ record old { units = old.units - paid step; context = new.context }

-- a thread's Request and its Try of l, with its stack
abbrev pub request_of : Code → Configuration → Lid → Command
request_of p c l = cmd.Request l (stack_of p c.context.frames)

abbrev pub attempt_of : Code → Configuration → Lid → Command
attempt_of p c l = cmd.Try l (stack_of p c.context.frames)

-- after the reply to a Request of l
abbrev pub asked : Lid → Configuration → Reply → Configuration
asked l c reply.Go = record c { units = c.units - 1; state = Waits l }
asked l c _ = record c { units = c.units - 1; state = Yields l }

-- behind an instruction that took l or gave it back, which leaves it held so often
abbrev pub behind_lock : Lid → ℕ → Bool → Configuration → Configuration
behind_lock l n drops c = record c { units = c.units - 1; state = Running; holds = holding l n c.holds; context = gone drops c.context }

-- after the reply to an Acquire of l
abbrev pub acquired : Lid → Bool → Configuration → Reply → Configuration
acquired l drops c reply.Got = behind_lock l 1 drops c
acquired l drops c _ = c

-- after l was taken once more, and after it was given back once
abbrev pub retaken : Lid → Bool → Configuration → Configuration
retaken l drops c = behind_lock l (suc (times c.holds l.0)) drops c

abbrev pub released : Lid → Bool → Configuration → Configuration
released l drops c = behind_lock l (times c.holds l.0 - 1) drops c

-- after the reply to a Try of l
abbrev pub tried : Lid → Configuration → Reply → Configuration
tried l c reply.Took = record c {
  units = c.units - 1;
  state = Running;
  holds = holding l (suc (times c.holds l.0)) c.holds;
  context = on (pushed (pos 1) c.context);
}
tried l c _ = record c { units = c.units - 1; state = Running; context = on (pushed (pos 0) c.context) }

-- a turn leads from a to b
abbrev pub IsTurn : Code → Type 0 → Whereabouts → Turn → Whereabouts → Type 0
IsTurn p woken a turn.Moved b = Move p a b
IsTurn p woken a turn.Over b = Finish p woken a b
IsTurn p woken a turn.Stopped b = b ≡ a

-- a machine, with units, that fits its door, faces what is next
pub record Faces (p : Code) (c : Configuration) (z : Seen) (step : Step) : Type 0 where
  pub fits : FitsMachine p c z.own
  pub going : is_ended c.state ≡ false
  pub thread : z.thread ≡ c.thread
  pub locks : z.locks ≡ lock_count p
  pub units : 1 ≤ c.units
  pub shows : Shows c.context (next_of p c) step c.context
  pub found : IsFound p c.holds c.context (told_by c.context step c.context)

abbrev pub StopsIf : Type 0 → Turn → Type 0
StopsIf stopped turn.Stopped = stopped
StopsIf stopped _ = ⊤

-- only a turn that was stopped was told a reply at which a slice stops
abbrev pub AreNoStops : Turn → ℕ → ℕ → Type 0
AreNoStops turn.Stopped before after = ⊤
AreNoStops _ before after = after ≡ before

-- a turn of a machine at its door. `stopped` and `woken` are the door's, after it
pub record Turned (p : Code) (c : Configuration) (z : Seen) (turn : Turn) (c' : Configuration) (z' : Seen) (stopped woken : Type 0) : Type 0 where
  pub turn_is : IsTurn p woken (place c z) turn (place c' z')
  pub fits : FitsMachine p c' z'.own
  pub fuel : c'.fuel ≡ c.fuel
  pub thread : z'.thread ≡ c'.thread
  pub same : z'.thread ≡ z.thread
  pub locks : z'.locks ≡ z.locks
  pub left : z.left ≤ z'.left + 1
  pub stops : AreNoStops turn z.stops z'.stops
  pub stop : StopsIf (WasStopped z z' × stopped) turn

-- a thread that stands so may ask or end: it runs, or it yields and was woken by the last reply
abbrev pub IsReady : State → Seen → Type 0 → Type 0
IsReady Running z woken = ⊤
IsReady (Yields l) z woken = WasWoken z × woken
IsReady _ z woken = ⊥
