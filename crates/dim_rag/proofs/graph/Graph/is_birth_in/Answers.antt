use Rattle.std.proofs.Common.{◌∙◌}
use Rattle.dim_rag.specs.History.{past}
use Rattle.dim_rag.proofs.Members.{births_in}
use Rattle.dim_rag.proofs.graph.Graph.is_birth_in.Goals as goal

pub returns : goal.returns
returns c =
    let found = c.edge_born.ensures in
    c.is_owner_in.ensures ∙ births_in c.args.set c.args.self.now.threads c.args.self.now.locks c.args.place (past c.args.self.now.entries) _ found.some found.each found.in_range
