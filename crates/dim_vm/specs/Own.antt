-- What a thread's own entries say of it. They are written with the newest first, as a history is. A
-- Break is no entry of its thread: one that was broken out still yields by its own entries.
use Rattle.std.specs.Prelude.{◌≡◌, ℕ, ⊤, List, ◌∷◌}
use Rattle.dim_base.specs.declared.Lid.{Lid}
use Rattle.dim_rag.specs.declared.entry.Entry.{Entry}
use Rattle.dim_rag.specs.declared.entry.Entry.TheVariants.{Go, Yield, End}
use Rattle.dim_rag.specs.declared.entry.Mode.{Mode}
use Rattle.dim_rag.specs.declared.entry.Mode.TheVariants as modes
use Rattle.dim_rag.specs.History.{mode}
use Rattle.dim_vm.specs.declared.state.State.{State}
use Rattle.dim_vm.specs.declared.state.State.TheVariants.{Running, Waits, Yields, Ended}

-- how a thread stands by its newest entry
abbrev pub state_by : List Entry → State
state_by (Go t l s ∷ h) = Waits l
state_by (Yield t l s sig births ∷ h) = Yields l
state_by (End t why ∷ h) = Ended why
state_by _ = Running

-- t yields on l
abbrev pub IsYieldingOn : ℕ → Lid → List Entry → Type 0
IsYieldingOn t l h = (place : ℕ) × (mode t h ≡ modes.Yielding l place)

-- the mode of a thread that stands so
abbrev pub IsModeOf : State → Mode → Type 0
IsModeOf Running modes.Running = ⊤
IsModeOf (Waits l) (modes.Allowed m birth) = m ≡ l
IsModeOf (Yields l) (modes.Yielding m place) = m ≡ l
IsModeOf (Ended why) (modes.Ended place) = ⊤
IsModeOf _ _ = ⊥
