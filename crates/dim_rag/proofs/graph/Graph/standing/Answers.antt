use Rattle.std.proofs.Common.{◌∙◌, ap}
use Rattle.dim_rag.specs.History.{past, mode, latest_wish}
use Rattle.dim_rag.specs.Edges.{standing_in}
use Rattle.dim_rag.proofs.Members.{all_in}
use Rattle.dim_rag.proofs.graph.Graph.standing.Goals as goal

pub returns : goal.returns
returns c =
    let h = past c.args.self.now.entries in
    c.standing_in.ensures
    ∙ ap (λ es. standing_in es (mode c.args.t.0 h) (latest_wish c.args.t.0 h)) (all_in c.everyone.result c.args.self.now.threads c.args.self.now.locks h c.everyone.ensures)
