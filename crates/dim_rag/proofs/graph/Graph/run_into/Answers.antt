use Rattle.std.proofs.Common.{◌∙◌, ◌<◌, ℕ, sym, arith}
use Rattle.dim_rag.specs.History.{past}
use Rattle.dim_rag.specs.Steps.{Step}
use Rattle.dim_rag.specs.Starvation.{step}
use Rattle.dim_rag.proofs.Advancing.{found, ends, goes_on, ends_long}
use Rattle.dim_rag.proofs.graph.Graph.run_into.Goals as goal

pub returns-in-Some : goal.returns-in-Some
returns-in-Some c =
    let n : ℕ = c.args.self.now.threads in
    let s : Step = step n c.args.self.now.locks (past c.args.self.now.entries) in
    let low : c.loop.counter < n = omega (arith, c.loop-test.true, c.threads-end.ensures.threads) in
    sym (found s n c.loop.counter c.loop.at.0 _ c.loop.invariant.same low c.in-Some.births (sym c.cycle_from.ensures ∙ c.in-Some.is))

pub returns-in_err-at : goal.returns-in_err-at
returns-in_err-at c =
    let n : ℕ = c.args.self.now.threads in
    let s : Step = step n c.args.self.now.locks (past c.args.self.now.entries) in
    let low : c.loop.counter < n = omega (arith, c.loop-test.true, c.threads-end.ensures.threads) in
    c.from_residual.ensures
    ∙ sym (ends s n c.loop.counter c.loop.at.0 _ c.loop.invariant.same low (sym c.cycle_from.ensures ∙ c.in_default.is) (sym c.in_err-at.ensures.value))

pub loop-preserved : goal.loop-preserved
loop-preserved c =
    let n : ℕ = c.args.self.now.threads in
    let s : Step = step n c.args.self.now.locks (past c.args.self.now.entries) in
    let low : c.loop.counter < n = omega (arith, c.loop-test.true, c.threads-end.ensures.threads) in
    record {
      within = c.in_ok-at.ensures.thread;
      same = goes_on s n c.loop.counter c.loop.at.0 _ c.loop.invariant.same low (sym c.cycle_from.ensures ∙ c.in_default.is) c.in_ok-at.field-0 (sym c.in_ok-at.ensures.value);
    }

pub returns : goal.returns
returns c =
    let n : ℕ = c.args.self.now.threads in
    sym (ends_long (step n c.args.self.now.locks (past c.args.self.now.entries)) n c.loop.counter c.loop.at.0 _ c.loop.invariant.same (omega (arith, c.loop-test.false, c.threads-end.ensures.threads)))
