-- Laws of a thread's own entries.
use Rattle.std.specs.Prelude.{◌≡◌, ℕ, ◌<◌, ⊤, List, option_map}
use Rattle.dim_base.specs.declared.Tid.{Tid}
use Rattle.dim_base.specs.declared.Lid.{Lid}
use Rattle.dim_stack.specs.declared.Frame.{Frame}
use Rattle.dim_asm.specs.Code.{Code}
use Rattle.dim_rag.specs.declared.entry.Entry.{Entry}
use Rattle.dim_rag.specs.declared.entry.Mode.{Mode}
use Rattle.dim_rag.specs.declared.entry.Mode.TheVariants as modes
use Rattle.dim_rag.specs.History.{Wish, count, latest_wish, mode}
use Rattle.dim_rag.specs.Fits.{Fits}
use Rattle.dim_vm.specs.Table.{times}
use Rattle.dim_vm.specs.Own.{state_by, IsModeOf}
use Rattle.dim_vm.specs.Configuration.{led}
use Rattle.dim_vm.specs.Fitting.{OwnWalk}
use Rattle.dim_vm.specs.Walks.{own_of, Walks, AllEndWoken}

-- where a thread's own entries are a walk, they say how it stands, in which mode it is, and how
-- often it holds each lock
pub record OwnEntriesLaw : Type 0 where
  pub state : (p : Code) (t : Tid) (fuel : ℕ) (own : List Entry) → OwnWalk p t fuel own
      → (led p t fuel own).state ≡ state_by own
  pub mode_is : (p : Code) (t : Tid) (fuel : ℕ) (own : List Entry) → OwnWalk p t fuel own
      → IsModeOf (state_by own) (mode t.0 own)
  pub holds : (p : Code) (t : Tid) (fuel : ℕ) (own : List Entry) (l : ℕ) → OwnWalk p t fuel own
      → l < 256 → times (led p t fuel own).holds l ≡ count t.0 l own

-- a mode by a thread's own entries and that by all are the same, save that one that was broken out
-- still yields by its own
abbrev pub SameButBroken : Mode → Mode → Type 0
SameButBroken modes.Running modes.Running = ⊤
SameButBroken (modes.Allowed l birth) (modes.Allowed m born) = l ≡ m
SameButBroken (modes.Yielding l place) (modes.Yielding m there) = l ≡ m
SameButBroken (modes.Yielding l place) (modes.Allowed m born) = l ≡ m
SameButBroken (modes.Ended place) (modes.Ended there) = ⊤
SameButBroken _ _ = ⊥

-- a wish without its place
abbrev pub without_place : Wish → Lid × List Frame × List ℕ
without_place w = (w.lock, w.stack, w.births)

-- what a thread's own entries say in a history that fits: its mode, how often it holds each lock,
-- and what it wants
pub record OwnHistoryLaw : Type 0 where
  pub mode_is : (t : Tid) (h : List Entry) → Fits h
      → SameButBroken (mode t.0 (own_of t h)) (mode t.0 h)
  pub holds : (t : Tid) (l : ℕ) (h : List Entry) → count t.0 l (own_of t h) ≡ count t.0 l h
  pub wish : (t : Tid) (h : List Entry)
      → option_map without_place (latest_wish t.0 (own_of t h))
      ≡ option_map without_place (latest_wish t.0 h)

-- A history that fits is a walk exactly where each thread's own entries are one, and a thread that
-- yields by them ends as spent only where it is woken
pub record OwnWalksLaw : Type 0 where
  pub walks : (p : Code) (fuel : ℕ) (h : List Entry) → Fits h
      → ((t : Tid) → OwnWalk p t fuel (own_of t h)) → AllEndWoken p h → Walks p fuel h
  pub own : (p : Code) (fuel : ℕ) (h : List Entry) → Fits h → Walks p fuel h → (t : Tid)
      → OwnWalk p t fuel (own_of t h)
  pub woken : (p : Code) (fuel : ℕ) (h : List Entry) → Fits h → Walks p fuel h → AllEndWoken p h
