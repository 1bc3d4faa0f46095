use Rattle.std.proofs.Common.{◌≡◌, length, map, take}
use Rattle.dim_rag.specs.History.{past}
use Rattle.dim_gate.specs.Known.{stack_at}
use Rattle.dim_gate.proofs.stacks.EdgeStacks.of.Given as goal

-- the stacks so far are in place
abbrev pub invariant-loop-i : goal.invariant-loop-i
invariant-loop-i l = record {
  size : length l.list ≡ 32;
  seen : take l.i l.list ≡ map (λ b. stack_at b (past l.graph.entries)) (take l.i l.births);
}
