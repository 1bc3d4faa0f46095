use Rattle.std.proofs.Common.{◌≡◌, ℕ, ◌<◌}
use Rattle.std.specs.Prelude.{Some}
use Rattle.dim_rag.specs.declared.entry.Edge.{Edge}
use Rattle.dim_rag.specs.History.{past, allow}
use Rattle.dim_rag.proofs.graph.Graph.any_allow_born.Given as goal

-- no thread so far has an allow edge with this birth
abbrev pub invariant-loop-t : goal.invariant-loop-t
invariant-loop-t l = (u m : ℕ) (e : Edge) → u < l.t → allow u m (past l.self.entries) ≡ Some e → e.birth ≡ l.birth → ⊥
