use Rattle.std.proofs.Common.{◌≡◌}
use Rattle.std.specs.Prelude.{option_map}
use Rattle.dim_base.specs.declared.Tid.{Tid}
use Rattle.dim_rag.specs.History.{past}
use Rattle.dim_rag.specs.Stuck.{choice}
use Rattle.dim_rag.proofs.graph.Graph.choice.Given as goal

abbrev pub invariant-loop-t : goal.invariant-loop-t
invariant-loop-t l = option_map (λ (t : Tid). t.0) l.best ≡ choice l.set l.self.locks (past l.self.entries) l.t
