use Rattle.std.proofs.Common.{ℕ}
use Rattle.dim_transcribe.specs.Performs.{PerformsPart}
use Rattle.dim_transcribe.proofs.OneMore.{below_more}
use Rattle.dim_transcribe.proofs.performing.perform_parts.Goals as goal

pub loop-k-preserved : goal.loop-k-preserved
loop-k-preserved c = below_more (λ (j : ℕ). PerformsPart c.args.program.now c.args.key.now c.args.log.now c.args.kept.now j) c.loop-k.k c.loop-k.invariant (c.performs_part.ensures c.if-not-performs_part.false)
