use Rattle.std.proofs.Common.{◌∙◌}
use Rattle.dim_rag.specs.History.{past}
use Rattle.dim_rag.proofs.HeldAt.{held_none, held_some}
use Rattle.dim_rag.proofs.graph.Graph.held_at.Goals as goal

pub returns-in-Some-clause-value : goal.returns-in-Some-clause-value
returns-in-Some-clause-value c =
    let found = c.in-Some.ensures in
    c.held_by.ensures
    ∙ held_some c.args.self.now.threads c.args.self.now.locks c.args.place (past c.args.self.now.entries) c.in-Some.e found.some found.in_range.1 c.holder.result c.holder.ensures.value c.holder.ensures.all

pub returns-in-None-clause-value : goal.returns-in-None-clause-value
returns-in-None-clause-value c = held_none c.args.self.now.threads c.args.self.now.locks c.args.place (past c.args.self.now.entries) c.in-None.ensures.each
