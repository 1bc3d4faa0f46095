use Rattle.std.proofs.Common.{ℕ, ap, sym, ◌∙◌}
use Rattle.std.specs.Prelude.{option_map}
use Rattle.dim_rag.specs.declared.entry.Edge.{Edge}
use Rattle.dim_rag.specs.History.{past}
use Rattle.dim_rag.specs.Waits.{waits, waits_by}
use Rattle.dim_monitor.proofs.Waiting.{owner_low}
use Rattle.dim_monitor.proofs.search.awaited.Goals as goal

pub returns-in-Allowed-clause-thread : goal.returns-in-Allowed-clause-thread
returns-in-Allowed-clause-thread c =
    let n : ℕ = c.args.graph.now.threads in
    let same = ap (waits_by n (past c.args.graph.now.entries)) (sym c.mode.ensures.value ∙ c.in-Allowed.is) in
    owner_low n (waits n (past c.args.graph.now.entries) c.args.t.0) c.owner.result
    (c.owner.ensures ∙ ap (option_map (λ (e : Edge). e.t)) (sym same))
    (λ e q. c.waits_law.ensures n (past c.args.graph.now.entries) c.args.t.0 e q)
