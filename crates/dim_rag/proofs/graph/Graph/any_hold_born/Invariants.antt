use Rattle.std.proofs.Common.{◌≡◌, ℕ, ◌<◌}
use Rattle.std.specs.Prelude.{Some}
use Rattle.dim_rag.specs.declared.entry.Edge.{Edge}
use Rattle.dim_rag.specs.History.{past, hold}
use Rattle.dim_rag.proofs.graph.Graph.any_hold_born.Given as goal

-- on no lock so far is there a hold edge with this birth
abbrev pub invariant-loop-l : goal.invariant-loop-l
invariant-loop-l l = (u m : ℕ) (e : Edge) → m < l.l → hold u m (past l.self.entries) ≡ Some e → e.birth ≡ l.birth → ⊥
