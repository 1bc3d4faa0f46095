-- What a caller keeps of how it stands.
use Rattle.std.specs.Prelude.{⊤, ◌≡◌, ℕ, ◌+◌, ◌≤◌, Bool, true, false, not, if◌then◌else◌, List, length, slice_index_or, Option, Some, None}
use Rattle.dim_base.specs.declared.Lid.{Lid}
use Rattle.dim_stack.specs.declared.Frame.{Frame}
use Rattle.dim_rag.specs.declared.entry.Entry.{Entry}
use Rattle.dim_rag.specs.History.{past, mode, count}
use Rattle.dim_rag.specs.Tables.{Replay}
use Rattle.dim_run.specs.Callers.{GoesOn, Known}
use Rattle.dim_mutex.specs.declared.holdings.Holdings.{Holdings}
use Rattle.dim_mutex.specs.Standing.{is_running, wanted_at, owed_at}

-- what it waits for, by a flag, a lock and a stack
abbrev pub wanted_by : Bool → Lid → List Frame → Option (Lid × List Frame)
wanted_by false l s = None
wanted_by true l s = Some (l, s)

-- these are the holdings of t at a history, the newest entry first. It holds each lock once at most
pub record AreHoldings (t : ℕ) (h : List Entry) (b : Holdings) : Type 0 where
  pub size : length b.held ≡ 256
  pub counts : (l : ℕ) → count t l h ≡ (if slice_index_or b.held l false then 1 else 0)
  pub owed_is : b.owed ≡ owed_at t h
  pub wanted_is : wanted_at t h ≡ wanted_by b.wants b.lock b.stack
  pub running : is_running (mode t h) ≡ not b.wants

-- how many entries are kept free for a caller that waits: for its Got, and to free that lock
abbrev pub kept_for : Bool → ℕ
kept_for true = 2
kept_for false = 0

-- a caller keeps its holdings, and may make enough entries to free all that it holds
pub record KeepsHoldings (k : Known) (b : Holdings) : Type 0 where
  pub are : AreHoldings k.number (past k.seen) b
  pub room : b.owed + kept_for b.wants ≤ k.left

-- a history, oldest first, goes on from what a monitor has taken, if there is one
abbrev pub Watches : Option Replay → List Entry → Type 0
Watches None h = ⊤
Watches (Some m) h = GoesOn (past h) (past m.entries)
