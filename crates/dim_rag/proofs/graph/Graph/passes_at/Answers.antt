use Rattle.std.proofs.Common.{◌∙◌}
use Rattle.dim_rag.specs.History.{past}
use Rattle.dim_rag.specs.Starvation.{step_on, found_on}
use Rattle.dim_rag.proofs.Positions.{passed}
use Rattle.dim_rag.proofs.graph.Graph.passes_at.Goals as goal

pub returns : goal.returns
returns c =
    c.passes.ensures
    ∙ passed (found_on c.args.trail c.args.self.now.threads c.args.self.now.locks (past c.args.self.now.entries)) (step_on c.args.trail c.args.self.now.threads c.args.self.now.locks (past c.args.self.now.entries))
    c.args.i c.at-first.result c.at.result c.next_place.result c.args.births.now c.at-first.ensures c.at.ensures c.next_place.ensures
