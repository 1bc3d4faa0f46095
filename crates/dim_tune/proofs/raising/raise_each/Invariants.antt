use Rattle.std.specs.Prelude.{take}
use Rattle.dim_rag.specs.Shown.{shown}
use Rattle.dim_tune.specs.Raised.{AreLowered, AreRaised}
use Rattle.dim_tune.proofs.raising.raise_each.Given as goal

-- those with the numbers before this place are raised, and the others are as they were
abbrev pub invariant-loop-k : goal.invariant-loop-k
invariant-loop-k l = record {
  lowered : AreLowered l.loaded.sigs l.all.items;
  raised : AreRaised l.loaded.sigs (take l.k l.numbers) l.index.edges (shown l.e) l.edge l.initial.all.items l.all.items;
}
