use Rattle.std.proofs.Common.{◌≡◌, ◌≤◌, ap, sym, ◌∙◌, subst, length}
use Rattle.dim_rag.specs.History.{past}
use Rattle.dim_rag.specs.Tables.{Replay}
use Rattle.dim_gate.specs.Gate.{Gate, constants}
use Rattle.dim_run.proofs.Rested.{rests, rests_settled}
use Rattle.dim_run.proofs.settling.settle_since.Goals as goal

pub returns-then-before-len-clause-history : goal.returns-then-before-len-clause-history
returns-then-before-len-clause-history c =
    let g : Gate = c.args.gate.now in
    let same : c.args.before ≡ length g.entries = c.if-before-len.true ∙ c.len.ensures.len ∙ ap (λ (x : Replay). length x.entries) c.tables.ensures.tables in
    sym (rests (constants g) (past g.entries) (c.requires.rested same))

pub returns-then-before-len-clause-rested : goal.returns-then-before-len-clause-rested
returns-then-before-len-clause-rested c =
    c.requires.rested (c.if-before-len.true ∙ c.len.ensures.len ∙ ap (λ (x : Replay). length x.entries) c.tables.ensures.tables)

pub returns-clause-rested : goal.returns-clause-rested
returns-clause-rested c =
    rests_settled c.args.gate.now c.settle.new.gate c.settled_law.ensures c.tables.ensures.legal (subst (λ (x : Replay). x.threads ≤ 32) c.tables.ensures.tables c.len.ensures.threads.1) c.requires.cap c.settle.ensures.constants c.settle.ensures.history
