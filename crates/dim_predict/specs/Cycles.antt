-- Deadlocks of two threads are candidates.
use Rattle.std.specs.Prelude.{ℕ, ◌≤◌, ◌⊎◌, List, [], ◌∷◌, map}
use Rattle.dim_rag.specs.declared.entry.Edge.{Edge}
use Rattle.dim_rag.specs.declared.entry.Entry.{Entry}
use Rattle.dim_rag.specs.Born.{In}
use Rattle.dim_rag.specs.History.{past}
use Rattle.dim_rag.specs.Steps.{IsCycle}
use Rattle.dim_rag.specs.Waits.{waits}
use Rattle.dim_signature.specs.Sig.{fresh}
use Rattle.dim_signature.specs.Sorted.{sorted}
use Rattle.dim_gate.specs.Gate.{Constants}
use Rattle.dim_gate.specs.Legal.{Legal}
use Rattle.dim_predict.specs.Candidates.{candidates_of}

-- At a legal history, the signature of each cycle of two threads, at the depth of its gate and at
-- any other, is a candidate of the entries or has the stacks of a loaded signature. An allowed
-- thread keeps what it holds, and a lock has one holder.
abbrev pub TwoThreadsLaw : Type 0
TwoThreadsLaw = (c : Constants) (entries : List Entry) → Legal c (past entries) → c.locks ≤ 256
    → (depth : ℕ) (a b : Edge) → IsCycle (waits c.threads (past entries)) (a ∷ b ∷ [])
    → In (fresh depth (sorted (a.stack ∷ b.stack ∷ []))) (candidates_of c.loaded depth entries)
    ⊎ In (sorted (a.stack ∷ b.stack ∷ [])) (map (λ s. s.stacks) c.loaded)
