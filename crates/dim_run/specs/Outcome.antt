-- How a run ended, by the cycles that stand and the threads that have ended.
use Rattle.std.specs.Prelude.{◌≡◌, ◌↔◌, ℕ, ◌<◌, List}
use Rattle.dim_rag.specs.declared.entry.Edge.{Edge}
use Rattle.dim_rag.specs.declared.entry.Entry.{Entry}
use Rattle.dim_rag.specs.Steps.{IsCycle}
use Rattle.dim_rag.specs.Waits.{waits}
use Rattle.dim_gate.specs.Settled.{HasEnded}
use Rattle.dim_run.specs.declared.playing.Outcome.TheVariants.{Finished, Deadlocked, Stalled}
use Rattle.dim_run.specs.Run.{outcome_by}

-- a cycle of n threads stands at h
abbrev pub HasCycle : ℕ → List Entry → Type 0
HasCycle n h = (c : List Edge) × IsCycle (waits n h) c

-- each of n threads has ended at h
abbrev pub HaveEnded : ℕ → List Entry → Type 0
HaveEnded n h = (t : ℕ) → t < n → HasEnded t h

-- A run of n threads is deadlocked exactly where a cycle stands at its end. Where none stands, it
-- is finished where each thread has ended, and else stalled.
pub record OutcomeLaw : Type 0 where
  pub deadlocked : (n : ℕ) (h : List Entry) → (outcome_by n h ≡ Deadlocked) ↔ HasCycle n h
  pub finished : (n : ℕ) (h : List Entry)
      → (outcome_by n h ≡ Finished) ↔ ((HasCycle n h → ⊥) × HaveEnded n h)
  pub stalled : (n : ℕ) (h : List Entry)
      → (outcome_by n h ≡ Stalled) ↔ ((HasCycle n h → ⊥) × (HaveEnded n h → ⊥))
