use Rattle.dim_signature.proofs.SortLemmas.{sorted_is_sorted, sorted_permutes, only_sorted}
use Rattle.dim_signature.proofs.sorting.sorted_law.Goals as goal

pub returns-clause-ordered : goal.returns-clause-ordered
returns-clause-ordered c = sorted_is_sorted

pub returns-clause-same : goal.returns-clause-same
returns-clause-same c = sorted_permutes

pub returns-clause-only : goal.returns-clause-only
returns-clause-only c = only_sorted
