use Rattle.std.proofs.Common.{ℕ, ◌<◌}
use Rattle.dim_transcribe.specs.Performs.{PerformsPart}
use Rattle.dim_transcribe.proofs.performing.perform_parts.Given as goal

abbrev pub invariant-loop-k : goal.invariant-loop-k
invariant-loop-k l = (j : ℕ) → j < l.k → PerformsPart l.program l.key l.log l.kept j
