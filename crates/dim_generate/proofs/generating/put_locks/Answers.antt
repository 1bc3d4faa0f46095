use Rattle.dim_generate.proofs.Drawing.{no_locks, locks_grown}
use Rattle.dim_generate.proofs.generating.put_locks.Goals as goal

pub loop-number-init : goal.loop-number-init
loop-number-init c = no_locks _

pub loop-number-preserved : goal.loop-number-preserved
loop-number-preserved c = locks_grown c.loop-number.number _ _ _ c.loop-number.invariant c.in_ok-put_naming.ensures
