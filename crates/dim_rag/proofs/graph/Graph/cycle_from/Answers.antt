use Rattle.std.proofs.Common.{◌∙◌, ◌<◌, ◌≤◌, sym, arith, ℕ, length-set}
use Rattle.dim_rag.specs.History.{past}
use Rattle.dim_rag.specs.Starvation.{step_on}
use Rattle.dim_rag.specs.Steps.{Step}
use Rattle.dim_rag.proofs.Walked.{so_far, all_so_far, comes_back, goes_on}
use Rattle.dim_rag.proofs.graph.Graph.cycle_from.Goals as goal

pub returns-then-next-first : goal.returns-then-next-first
returns-then-next-first c =
    let n : ℕ = c.args.self.now.threads in
    let s : Step = step_on c.args.trail n c.args.self.now.locks (past c.args.self.now.entries) in
    let low : c.loop-i.i < n = omega (arith, c.loop-i-test.true, c.threads-i-end.ensures.threads) in
    c.closed.ensures c.in_ok-next.next.birth (so_far c.loop-i.i c.loop-i.places) (all_so_far c.loop-i.i c.in_ok-next.next.birth c.loop-i.places (omega (arith, c.loop-i.invariant.size)))
    ∙ sym (comes_back s n c.args.first.0 c.loop-i.i c.loop-i.at.0 c.loop-i.places _ c.loop-i.invariant.same low c.in_ok-next.next (sym c.in_ok-next.ensures.value) c.if-next-first.true)

pub loop-i-preserved : goal.loop-i-preserved
loop-i-preserved c =
    let n : ℕ = c.args.self.now.threads in
    let s : Step = step_on c.args.trail n c.args.self.now.locks (past c.args.self.now.entries) in
    let low : c.loop-i.i < n = omega (arith, c.loop-i-test.true, c.threads-i-end.ensures.threads) in
    let few : n ≤ 32 = omega (arith, c.threads-i-end.ensures.threads, c.threads-i-end.ensures.few) in
    record {
      size = length-set _ _ _ ∙ c.loop-i.invariant.size;
      within = c.in_ok-next.ensures.thread;
      same = goes_on s n c.args.first.0 c.loop-i.i c.loop-i.at.0 c.loop-i.places _ c.loop-i.invariant.same low c.in_ok-next.next (sym c.in_ok-next.ensures.value) c.if-next-first.false
          (omega (arith, c.if-next-first-2.false)) (omega (arith, c.loop-i.invariant.size, few, low));
    }
