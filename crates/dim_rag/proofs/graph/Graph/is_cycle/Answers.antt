use Rattle.std.proofs.Common.{◌∙◌, sym, arith}
use Rattle.dim_rag.specs.History.{past}
use Rattle.dim_rag.specs.Waits.{waits}
use Rattle.dim_rag.specs.Certificate.{held_at, passes_at}
use Rattle.dim_rag.proofs.FirstFailing.{goes_on}
use Rattle.dim_rag.proofs.Faults.{fails_first}
use Rattle.dim_rag.proofs.graph.Graph.is_cycle.Goals as goal

pub returns-then-not-passes_at : goal.returns-then-not-passes_at
returns-then-not-passes_at c =
    fails_first (held_at c.args.self.now.threads c.args.self.now.locks (past c.args.self.now.entries)) (waits c.args.self.now.threads (past c.args.self.now.entries)) c.args.births.now c.loop-i.i
    (omega (arith, c.if-len-lt2.false, c.len.ensures.len)) (omega (arith, c.loop-i-test.true, c.len-i-end.ensures.len))
    (sym c.passes_at.ensures ∙ c.if-not-passes_at.true) c.loop-i.invariant

pub loop-i-preserved : goal.loop-i-preserved
loop-i-preserved c =
    goes_on (passes_at (held_at c.args.self.now.threads c.args.self.now.locks (past c.args.self.now.entries)) (waits c.args.self.now.threads (past c.args.self.now.entries)) c.args.births.now) c.loop-i.i
    (sym c.passes_at.ensures ∙ c.if-not-passes_at.false) c.loop-i.invariant
