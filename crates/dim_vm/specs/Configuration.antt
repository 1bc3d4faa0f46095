-- The configuration of a thread, and where its own entries lead it.
use Rattle.std.specs.Prelude.{ℕ, zero, suc, ◌-◌, Bool, true, false, List, [], ◌∷◌, slice_set, replicate}
use Rattle.dim_base.specs.declared.Tid.{Tid}
use Rattle.dim_base.specs.declared.Lid.{Lid}
use Rattle.dim_asm.specs.Code.{Code, start_of}
use Rattle.dim_rag.specs.declared.entry.Entry.{Entry}
use Rattle.dim_rag.specs.declared.entry.Entry.TheVariants.{Go, Yield, Got, Free, Took, Miss, End, Break, Learn}
use Rattle.dim_vm.specs.declared.context.Context.{Context}
use Rattle.dim_vm.specs.declared.state.State.{State}
use Rattle.dim_vm.specs.declared.state.State.TheVariants.{Running, Waits, Yields, Ended}
use Rattle.dim_vm.specs.Table.{begun, times, Next, Plain, Wants, Retakes, Frees, Tries, next}

-- the thread, the fuel that it began with, the units that it has left, how it stands, how often it
-- holds each lock, and what its instructions work on
pub record Configuration : Type 0 where
  pub thread : Tid
  pub fuel : ℕ
  pub units : ℕ
  pub state : State
  pub holds : List ℕ
  pub context : Context

abbrev pub is_ended : State → Bool
is_ended (Ended why) = true
is_ended _ = false

-- the next thing that a thread does which has units and hasn't ended
abbrev pub next_of : Code → Configuration → Next
next_of p c = next p c.holds c.context

-- t at its start
abbrev pub start : Code → Tid → ℕ → Configuration
start p t fuel = record {
  thread = t;
  fuel = fuel;
  units = fuel;
  state = Running;
  holds = replicate 256 0;
  context = begun (start_of p t.0).func (start_of p t.0).argument;
}

-- units, and what the plain instructions work on
pub record Course : Type 0 where
  pub units : ℕ
  pub context : Context

-- on, where the next thing is plain
abbrev pub course_by : Next → (Context → Course) → Course → Course
course_by (Plain b) onwards here = onwards b
course_by _ onwards here = here

-- with all plain instructions made, each for a unit, up to one that isn't plain or to no units
abbrev pub course : Code → List ℕ → ℕ → Context → Course
course p holds zero b = record { units = 0; context = b }
course p holds (suc n) b = course_by (next p holds b) (course p holds n) (record { units = suc n; context = b })

abbrev pub with_course : Configuration → Course → Configuration
with_course c r = record c { units = r.units; context = r.context }

-- the same for a thread that stands so: only one that runs makes plain instructions
abbrev pub rested_in : Code → Configuration → State → Configuration
rested_in p c Running = with_course c (course p c.holds c.units c.context)
rested_in p c _ = c

abbrev pub rested : Code → Configuration → Configuration
rested p c = rested_in p c c.state

-- what an instruction about a lock leaves: at a Got, a Took and a Free; and at a Miss
abbrev pub passed : Next → Context → Context
passed (Wants l after) b = after
passed (Retakes l after) b = after
passed (Frees l after) b = after
passed (Tries l took missed) b = took
passed _ b = b

abbrev pub missed : Next → Context → Context
missed (Tries l took miss) b = miss
missed _ b = b

-- with a lock held so often
abbrev pub holding : Lid → ℕ → List ℕ → List ℕ
holding l n holds = slice_set holds l.0 n

-- the configuration after an own entry, by the next thing
abbrev pub moved_by : Configuration → Entry → Next → Configuration
moved_by c (Go t l s) n = record c { units = c.units - 1; state = Waits l }
moved_by c (Yield t l s sig births) n = record c { units = c.units - 1; state = Yields l }
moved_by c (Got t l) n = record c { units = c.units - 1; state = Running; holds = holding l 1 c.holds; context = passed n c.context }
moved_by c (Free t l) n = record c { units = c.units - 1; state = Running; holds = holding l (times c.holds l.0 - 1) c.holds; context = passed n c.context }
moved_by c (Took t l s) n = record c { units = c.units - 1; state = Running; holds = holding l (suc (times c.holds l.0)) c.holds; context = passed n c.context }
moved_by c (Miss t l s why) n = record c { units = c.units - 1; state = Running; context = missed n c.context }
moved_by c (End t why) n = record c { state = Ended why }
moved_by c (Break set t) n = c
moved_by c (Learn births) n = c

abbrev pub moved : Code → Configuration → Entry → Configuration
moved p c e = moved_by c e (next_of p c)

-- where a thread's own entries, the newest first, lead it that began with so much fuel, with the
-- plain instructions that come next
abbrev pub led : Code → Tid → ℕ → List Entry → Configuration
led p t fuel [] = rested p (start p t fuel)
led p t fuel (e ∷ h) = rested p (moved p (led p t fuel h) e)
