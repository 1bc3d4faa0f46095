-- What is kept of a log.
use Rattle.std.specs.Prelude.{◌≡◌, ℕ, ◌==◌, Bool, not, true, List, [], All, Contains, map, length}
use Rattle.std.specs.List.{filter, flat_map}
use Rattle.dim_log.specs.declared.log.Event.{Event}
use Rattle.dim_orders.specs.declared.kept.Chain.{Chain}
use Rattle.dim_orders.specs.declared.kept.Operation.{Operation}
use Rattle.dim_orders.specs.Cycles.{Wait, IsCycle, IsOf}
use Rattle.dim_orders.specs.Crossing.{kept_from}
use Rattle.dim_orders.specs.Lines.{AreOnce, IsLine}
use Rattle.dim_orders.specs.Nestings.{nestings, are_down}
use Rattle.dim_orders.specs.Own.{own}
use Rattle.dim_orders.specs.Sections.{sections}

-- what is kept of a thread
abbrev pub kept_of : List ℕ → List Event → ℕ → List Operation
kept_of parts events t = kept_from parts [] (sections (own t events))

-- threads, and what is kept of them
pub record Line : Type 0 where
  pub threads : List ℕ
  pub operations : List Operation

-- threads, and what this says is kept of each, one behind the other
abbrev pub line_by : (ℕ → List Operation) → List ℕ → Line
line_by kept ts = record { threads = ts; operations = flat_map kept ts }

abbrev pub line_of : List ℕ → List Event → List ℕ → Line
line_of parts events ts = line_by (kept_of parts events) ts

abbrev pub has_any : Line → Bool
has_any l = not (length l.operations == 0)

abbrev pub shown : Chain → Line
shown c = record { threads = c.threads.items; operations = c.operations.items }

-- these chains are what is kept of some events
pub record AreKept (events : List Event) (chains : List Line) : Type 0 where
  -- the parts of the locks
  pub parts : List ℕ
  -- all chains, also those of which nothing is kept
  pub lines : List (List ℕ)
  -- no order goes up
  pub down : (t : ℕ) → are_down parts (own t events) ≡ true
  -- each thread that does something is in one, and only there
  pub once : AreOnce events lines
  -- each but the first was started after the one before it was joined
  pub joined : All (IsLine events) lines
  -- each has the sections kept of its threads, one thread behind the other
  pub made : chains ≡ filter has_any (map (line_of parts events) lines)

-- one of some chains has a thread, and among its operations a nesting
pub record Stands (chains : List Line) (w : Wait) : Type 0 where
  pub chain : Line
  pub among : Contains chains chain
  pub thread : Contains chain.threads w.thread
  pub nesting : Contains (nestings chain.operations) w.nesting

-- each nesting of a cycle of nestings of the log stands in the chain of its thread
abbrev pub CyclesLaw : List Event → List Line → Type 0
CyclesLaw events chains = (ws : List Wait) → IsCycle ws
    → All (IsOf events) ws → All (Stands chains) ws
