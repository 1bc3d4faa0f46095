-- Histories of all threads, in which each thread's own entries are the moves of its machine.
use Rattle.std.specs.Prelude.{◌≡◌, ℕ, ◌==◌, ⊤, ◌⊎◌, Bool, false, List, [], ◌∷◌, filter, Option, Some, None}
use Rattle.dim_base.specs.declared.Tid.{Tid}
use Rattle.dim_asm.specs.Code.{Code, thread_count, lock_count}
use Rattle.dim_rag.specs.declared.entry.Entry.{Entry}
use Rattle.dim_rag.specs.declared.entry.Entry.TheVariants.{End}
use Rattle.dim_rag.specs.declared.entry.Mode.TheVariants as modes
use Rattle.dim_rag.specs.declared.entry.Why.TheVariants.{Spent}
use Rattle.dim_rag.specs.History.{mode}
use Rattle.dim_rag.specs.Edges.{standing}
use Rattle.dim_rag.specs.Fits.{IsYielding}
use Rattle.dim_rag.specs.Tables.{caller_of}
use Rattle.dim_vm.specs.declared.state.State.{State}
use Rattle.dim_vm.specs.declared.state.State.TheVariants.{Yields}
use Rattle.dim_vm.specs.Own.{state_by}
use Rattle.dim_vm.specs.Configuration.{Configuration, led}
use Rattle.dim_vm.specs.Fitting.{FitsEntry}

abbrev pub is_by : Tid → Option Tid → Bool
is_by t None = false
is_by t (Some u) = u.0 == t.0

-- the own entries of t, in their order
abbrev pub own_of : Tid → List Entry → List Entry
own_of t h = filter (λ e. is_by t (caller_of e)) h

-- the configuration of t after a history, the newest entry first, in which each thread began with
-- so much fuel
abbrev pub configuration : Code → ℕ → Tid → List Entry → Configuration
configuration p fuel t h = led p t fuel (own_of t h)

-- t is woken at h: it yields, and not all of its causes stand
pub record IsWoken (p : Code) (t : Tid) (h : List Entry) : Type 0 where
  pub yields : IsYielding t.0 h
  pub woken : standing (thread_count p) (lock_count p) t.0 h ≡ None

-- at h, t runs or is woken
abbrev pub IsAwake : Code → Tid → List Entry → Type 0
IsAwake p t h = (mode t.0 h ≡ modes.Running) ⊎ IsWoken p t h

-- e, which may come after h, fits the configuration of its caller, if that is a thread
abbrev pub FitsCaller : Code → ℕ → List Entry → Entry → Option Tid → Type 0
FitsCaller p fuel h e None = ⊤
FitsCaller p fuel h e (Some t) = FitsEntry p (IsAwake p t h) (configuration p fuel t h) e

-- each entry fits the configuration of its caller
abbrev pub Walks : Code → ℕ → List Entry → Type 0
Walks p fuel [] = ⊤
Walks p fuel (e ∷ h) = FitsCaller p fuel h e (caller_of e) × Walks p fuel h

-- an End as spent of t, which its own entries leave so, is of one that is woken, if it yields by
-- them
abbrev pub WokenIn : Code → Tid → List Entry → State → Type 0
WokenIn p t h (Yields l) = IsWoken p t h
WokenIn p t h _ = ⊤

abbrev pub EndsWoken : Code → List Entry → Entry → Type 0
EndsWoken p h (End t Spent) = WokenIn p t h (state_by (own_of t h))
EndsWoken p h _ = ⊤

abbrev pub AllEndWoken : Code → List Entry → Type 0
AllEndWoken p [] = ⊤
AllEndWoken p (e ∷ h) = EndsWoken p h e × AllEndWoken p h
