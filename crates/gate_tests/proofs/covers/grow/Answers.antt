use Rattle.std.proofs.Common.{◌∙◌, ap, sym}
use Rattle.dim_rag.specs.History.{past}
use Rattle.dim_rag.specs.Tables.{Replay}
use Rattle.dim_rag.specs.Born.{all_edges}
use Rattle.dim_rag.proofs.Exports.{past_more}
use Rattle.dim_cover.specs.Index.{Edges}
use Rattle.gate_tests.proofs.covers.grow.Goals as goal

pub returns-clause-edges : goal.returns-clause-edges
returns-clause-edges g c =
    ap (λ (x : Edges). x.edges) c.tell.ensures
    ∙ ap all_edges (sym (past_more c.reserve.new.self.entries c.args.e.now))
    ∙ sym (ap (λ (r : Replay). all_edges (past r.entries)) c.enter.ensures)
