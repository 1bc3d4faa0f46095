-- The signatures that are known after a run, by places. A list of past entries has its newest entry
-- first, so in `newer ++ (e ∷ older)` the place of e is `length older`.
use Rattle.std.specs.Prelude.{◌≡◌, ◌≤◌, ℕ, ◌+◌, List, ◌∷◌, ◌++◌, length, slice_get, map, Some}
use Rattle.dim_stack.specs.declared.Frame.{Frame}
use Rattle.dim_rag.specs.declared.entry.Edge.{Edge}
use Rattle.dim_rag.specs.declared.entry.Entry.{Entry}
use Rattle.dim_rag.specs.declared.entry.Entry.TheVariants.{Learn}
use Rattle.dim_rag.specs.History.{past}
use Rattle.dim_rag.specs.Steps.{IsCycle, births}
use Rattle.dim_rag.specs.Waits.{waits}
use Rattle.dim_signature.specs.Sig.{Sig, counted, fresh}
use Rattle.dim_signature.specs.Sorted.{sorted}
use Rattle.dim_gate.specs.Gate.{Constants}
use Rattle.dim_gate.specs.Learns.{learns}
use Rattle.dim_gate.specs.ByPlace.{IsCycleOrStarvation}
use Rattle.dim_execution.specs.Executes.{Executes}
use Rattle.dim_run.specs.Grown.{yields_of, grown}
use Rattle.dim_run.specs.Rules.{Rules, gate_of}

-- the stacks of edges, in order
abbrev pub stacks_of : List Edge → List (List Frame)
stacks_of edges = sorted (map (λ e. e.stack) edges)

-- the signature with this number is s, with the Yields of these entries that name it counted
abbrev pub IsGrownAt : List Entry → List Sig → ℕ → Sig → Type 0
IsGrownAt entries sigs i s = slice_get sigs i ≡ Some (counted (yields_of i entries) s)

-- the number of the signature that a Learn after h makes known
abbrev pub next_number : Constants → List Entry → ℕ
next_number c h = length c.loaded + length (learns h)

-- What a Learn of these places after h is of: the edges with these births make a cycle or a
-- starvation at h. The signature with the next number has their stacks, in order, at the run's
-- depth; it is on.
pub record IsLearnt (c : Constants) (entries : List Entry) (sigs : List Sig) (places : List ℕ) (h : List Entry) : Type 0 where
  pub edges : List Edge
  pub stands : IsCycleOrStarvation c.threads c.locks h edges
  pub births_are : births edges ≡ places
  pub sig : IsGrownAt entries sigs (next_number c h) (fresh c.depth (stacks_of edges))

-- Signatures after entries are those that were loaded, by their numbers, and then one for each
-- Learn, no more than may be known. Among them is that of each cycle that stands at some moment.
pub record AreLearnt (c : Constants) (entries : List Entry) (sigs : List Sig) : Type 0 where
  pub count : length sigs ≡ next_number c (past entries)
  pub few : length sigs ≤ c.cap
  pub loaded : (i : ℕ) (s : Sig) → slice_get c.loaded i ≡ Some s → IsGrownAt entries sigs i s
  pub learnt : (newer : List Entry) (places : List ℕ) (older : List Entry)
      → newer ++ (Learn places ∷ older) ≡ past entries → IsLearnt c entries sigs places older
  pub cycles : (newer older : List Entry) → newer ++ older ≡ past entries → (edges : List Edge)
      → IsCycle (waits c.threads older) edges
      → (i : ℕ) × (s : Sig) × (slice_get sigs i ≡ Some s) × (s.stacks ≡ stacks_of edges)

-- so it is after each list that executes a program
abbrev pub LearntLaw : Type 0
LearntLaw = (r : Rules) (entries : List Entry) → Executes (gate_of r) r.program r.fuel entries
    → AreLearnt (gate_of r) entries (grown r.loaded r.depth entries)
