use Rattle.std.proofs.Common.{ℕ, sym, ◌∙◌}
use Rattle.dim_rag.specs.History.{past}
use Rattle.dim_rag.specs.Waits.{waits}
use Rattle.dim_monitor.proofs.Waiting.{unwalked}
use Rattle.dim_monitor.proofs.search.begins_cycle.Goals as goal

pub returns-then-not-waits_for_one_that_waits : goal.returns-then-not-waits_for_one_that_waits
returns-then-not-waits_for_one_that_waits c =
    let n : ℕ = c.args.graph.now.threads in
    unwalked (waits n (past c.args.graph.now.entries)) c.args.t.0 n (sym c.if-not-waits_for_one_that_waits.true ∙ c.waits_for_one_that_waits.ensures)
