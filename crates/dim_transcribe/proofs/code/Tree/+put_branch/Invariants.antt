use Rattle.std.proofs.Common.{length}
use Rattle.dim_transcribe.proofs.code.Tree.+put_branch.Given as goal

abbrev pub decreases-put_branch : goal.decreases-put_branch
decreases-put_branch l = length l.leaves.now
