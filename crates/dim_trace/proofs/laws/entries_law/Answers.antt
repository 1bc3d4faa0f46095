use Rattle.dim_trace.proofs.EntryRanges.{entries_law}
use Rattle.dim_trace.proofs.laws.entries_law.Goals as goal

pub returns : goal.returns
returns c =
    entries_law c.stacks_law.ensures.asked c.stacks_law.ensures.named c.named_law.ensures c.edges_law.ensures c.certificate_law.ensures c.walk_law.ensures c.waits_law.ensures
