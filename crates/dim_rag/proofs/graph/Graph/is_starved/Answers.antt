use Rattle.std.proofs.Common.{◌∙◌, sym, subst, arith, true, false, ◌≡◌, length}
use Rattle.std.specs.Prelude.{None}
use Rattle.dim_rag.specs.History.{past}
use Rattle.dim_rag.specs.FirstFailing.{first_failing}
use Rattle.dim_rag.specs.Starvation.{starves_at}
use Rattle.dim_rag.proofs.FirstFailing.{goes_on}
use Rattle.dim_rag.proofs.Faults.{starved_stops, starved_ends}
use Rattle.dim_rag.proofs.graph.Graph.is_starved.Goals as goal

pub returns-then-not-starves_at : goal.returns-then-not-starves_at
returns-then-not-starves_at c =
    starved_stops c.args.self.now.threads c.args.self.now.locks (past c.args.self.now.entries) c.args.births.now c.loop-i.i
    (omega (arith, c.if-len-lt2.false, c.len.ensures.len)) (omega (arith, c.loop-i-test.true, c.len-i-end.ensures.len))
    (sym c.starves_at.ensures ∙ c.if-not-starves_at.true) c.loop-i.invariant

pub loop-i-preserved : goal.loop-i-preserved
loop-i-preserved c =
    goes_on (starves_at c.args.self.now.threads c.args.self.now.locks (past c.args.self.now.entries) c.args.births.now) c.loop-i.i
    (sym c.starves_at.ensures ∙ c.if-not-starves_at.false) c.loop-i.invariant

pub returns-then-someone_yields : goal.returns-then-someone_yields
returns-then-someone_yields c =
    let all : c.loop-i.i ≡ length c.args.births.now = omega (arith, c.loop-i-test.false, c.loop-i.auto.i-end, c.len-i-end.ensures.len) in
    starved_ends c.args.self.now.threads c.args.self.now.locks (past c.args.self.now.entries) c.args.births.now
    (omega (arith, c.if-len-lt2.false, c.len.ensures.len)) true (sym c.if-someone_yields.true ∙ c.someone_yields.ensures)
    (subst (λ k. first_failing (starves_at c.args.self.now.threads c.args.self.now.locks (past c.args.self.now.entries) c.args.births.now) k ≡ None) all c.loop-i.invariant)

pub returns-else-someone_yields : goal.returns-else-someone_yields
returns-else-someone_yields c =
    let all : c.loop-i.i ≡ length c.args.births.now = omega (arith, c.loop-i-test.false, c.loop-i.auto.i-end, c.len-i-end.ensures.len) in
    starved_ends c.args.self.now.threads c.args.self.now.locks (past c.args.self.now.entries) c.args.births.now
    (omega (arith, c.if-len-lt2.false, c.len.ensures.len)) false (sym c.if-someone_yields.false ∙ c.someone_yields.ensures)
    (subst (λ k. first_failing (starves_at c.args.self.now.threads c.args.self.now.locks (past c.args.self.now.entries) c.args.births.now) k ≡ None) all c.loop-i.invariant)
