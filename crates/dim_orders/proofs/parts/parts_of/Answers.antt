use Rattle.std.specs.Prelude.{slice_index_or}
use Rattle.dim_orders.proofs.Lowest.{low}
use Rattle.dim_orders.proofs.parts.parts_of.Goals as goal

pub returns-else-branch : goal.returns-else-branch
returns-else-branch c = λ k d lt. low c.new.result.items (slice_index_or c.args.threads.now k d).items c.new.ensures.items
