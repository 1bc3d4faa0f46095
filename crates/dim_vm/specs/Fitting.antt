-- Which entries fit a configuration.
use Rattle.std.specs.Prelude.{◌≡◌, ℕ, ◌≤◌, ⊤, ◌⊎◌, false, List, [], ◌∷◌, Some}
use Rattle.dim_base.specs.declared.Tid.{Tid}
use Rattle.dim_base.specs.declared.Lid.{Lid}
use Rattle.dim_stack.specs.declared.Frame.{Frame}
use Rattle.dim_asm.specs.Code.{Code}
use Rattle.dim_rag.specs.declared.entry.Entry.{Entry}
use Rattle.dim_rag.specs.declared.entry.Entry.TheVariants.{Go, Yield, Got, Free, Took, Miss, End, Break, Learn}
use Rattle.dim_rag.specs.declared.entry.Why.TheVariants.{Spent}
use Rattle.dim_rag.specs.History.{past}
use Rattle.dim_rag.specs.Tables.{thread_of}
use Rattle.dim_vm.specs.declared.context.Context.{Context}
use Rattle.dim_vm.specs.declared.state.State.{State}
use Rattle.dim_vm.specs.declared.state.State.TheVariants.{Running, Yields}
use Rattle.dim_vm.specs.Frames.{stack_of}
use Rattle.dim_vm.specs.Table.{Next, Ends, Wants, Retakes, Frees, Tries}
use Rattle.dim_vm.specs.Configuration.{Configuration, next_of, is_ended, led, rested}

-- the next thing is to take l that isn't held, to take it once more, to free it, or to try it
abbrev pub IsWanting : Lid → Next → Type 0
IsWanting l n = (after : Context) × (n ≡ Wants l after)

abbrev pub IsRetaking : Lid → Next → Type 0
IsRetaking l n = (after : Context) × (n ≡ Retakes l after)

abbrev pub IsFreeing : Lid → Next → Type 0
IsFreeing l n = (after : Context) × (n ≡ Frees l after)

abbrev pub IsTrying : Lid → Next → Type 0
IsTrying l n = (took : Context) × (missed : Context) × (n ≡ Tries l took missed)

-- an entry is what a thread does next that has so many units and calls. One that has a unit for no
-- request ends as spent only where it may
abbrev pub FitsNext : ℕ → List Frame → Type 0 → Entry → Next → Type 0
FitsNext units stack may_end (Go t l s) n = (2 ≤ units) × (s ≡ stack) × IsWanting l n
FitsNext units stack may_end (Yield t l s sig births) n = (2 ≤ units) × (s ≡ stack) × IsWanting l n
FitsNext units stack may_end (Got t l) n = (1 ≤ units) × IsWanting l n
FitsNext units stack may_end (Free t l) n = (1 ≤ units) × IsFreeing l n
FitsNext units stack may_end (Took t l s) n = (1 ≤ units) × (s ≡ stack)
    × (IsTrying l n ⊎ IsRetaking l n)
FitsNext units stack may_end (Miss t l s why) n = (1 ≤ units) × (s ≡ stack) × IsTrying l n
FitsNext units stack may_end (End t Spent) n = (units ≡ 0)
    ⊎ ((units ≡ 1) × may_end × ((l : Lid) × IsWanting l n))
FitsNext units stack may_end (End t why) n = (1 ≤ units) × (n ≡ Ends why)
FitsNext units stack may_end (Break set t) n = ⊥
FitsNext units stack may_end (Learn births) n = ⊥

-- an entry is a move of the thread that is configured so, or the end of it
pub record FitsEntry (p : Code) (may_end : Type 0) (c : Configuration) (e : Entry) : Type 0 where
  pub going : is_ended c.state ≡ false
  pub by : thread_of e ≡ Some c.thread
  pub next : FitsNext c.units (stack_of p c.context.frames) may_end e (next_of p c)

-- a thread that stands so may end with a unit left: it runs, or it yields and is woken
abbrev pub MayEnd : Type 0 → State → Type 0
MayEnd woken Running = ⊤
MayEnd woken (Yields l) = woken
MayEnd woken _ = ⊥

-- an entry fits, as far as a thread's own entries say: whether it is woken they don't
abbrev pub FitsOwn : Code → Configuration → Entry → Type 0
FitsOwn p c e = FitsEntry p (MayEnd ⊤ c.state) c e

-- each of a thread's own entries, the newest first, fits where those before it lead
abbrev pub OwnWalk : Code → Tid → ℕ → List Entry → Type 0
OwnWalk p t fuel [] = ⊤
OwnWalk p t fuel (e ∷ h) = FitsOwn p (led p t fuel h) e × OwnWalk p t fuel h

-- a thread's own entries, oldest first, lead to a configuration, once the plain instructions that
-- come next are made
pub record FitsMachine (p : Code) (c : Configuration) (own : List Entry) : Type 0 where
  pub walk : OwnWalk p c.thread c.fuel (past own)
  pub leads : led p c.thread c.fuel (past own) ≡ rested p c
