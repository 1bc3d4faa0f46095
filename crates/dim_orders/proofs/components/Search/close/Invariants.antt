use Rattle.std.proofs.Common.{vec_len}
use Rattle.dim_orders.proofs.components.Search.close.Given as goal

abbrev pub decreases-loop-w : goal.decreases-loop-w
decreases-loop-w l = vec_len l.self.open
