use Rattle.dim_signature.proofs.SortLemmas.{only_sorted}
use Rattle.dim_signature.proofs.sorting.sort_stacks.Goals as goal

pub returns-clause-value : goal.returns-clause-value
returns-clause-value c = only_sorted _ _ c.sort_unstable.ensures.permutation c.sort_unstable.ensures.sorted
