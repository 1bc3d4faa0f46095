use Rattle.std.proofs.Common.{◌∙◌, ◌++◌, ◌∷◌, [], ◌≤◌, ap, arith, length}
use Rattle.dim_asm.specs.Code.{thread_count, lock_count}
use Rattle.dim_rag.specs.History.{past}
use Rattle.dim_run.specs.Run.{outcome_by}
use Rattle.dim_picture.specs.declared.mark.Mark.{Mark}
use Rattle.dim_picture.proofs.Passing.{begins, may_fit, may_range, has_room, goes_on, whole, all_marks}
use Rattle.dim_picture.proofs.marking.mark_all.Goals as goal

pub loop-place-init : goal.loop-place-init
loop-place-init c =
    let p = c.args.program.now in
    begins (thread_count p) (lock_count p) c.len-count.result c.args.trace.now.entries c.in_ok-graph.graph c.reserve.new.self c.new-marks.result.items
    (c.in_ok-graph.ensures ∙ (λ i. record { threads = c.threads.ensures.value i; locks = c.locks.ensures.value i; entries = []; spare = 0 })) c.reserve.ensures c.len-count.ensures c.new-marks.ensures.items

pub mark_of-requires : goal.mark_of-requires
mark_of-requires c =
    let p = c.args.program.now in
    let entries = c.args.trace.now.entries in
    let l = c.loop-place in
    record {
      in_range = may_range (thread_count p) (lock_count p) entries c.requires.told l.place l.graph l.marks.items l.invariant c.entry-e.result c.entry-e.ensures;
      fits = may_fit (thread_count p) (lock_count p) entries c.requires.told l.place l.graph l.marks.items l.invariant c.entry-e.result c.entry-e.ensures;
    }

pub enter-requires : goal.enter-requires
enter-requires c =
    let p = c.args.program.now in
    let entries = c.args.trace.now.entries in
    let l = c.loop-place in
    record {
      room = has_room (thread_count p) (lock_count p) entries c.requires.told l.place l.graph l.marks.items l.invariant c.entry-e.result c.entry-e.ensures;
      in_range = may_range (thread_count p) (lock_count p) entries c.requires.told l.place l.graph l.marks.items l.invariant c.entry-e.result c.entry-e.ensures;
      fits = may_fit (thread_count p) (lock_count p) entries c.requires.told l.place l.graph l.marks.items l.invariant c.entry-e.result c.entry-e.ensures;
    }

pub loop-place-preserved : goal.loop-place-preserved
loop-place-preserved c =
    let p = c.args.program.now in
    let l = c.loop-place in
    goes_on (thread_count p) (lock_count p) c.args.trace.now.entries c.requires.told l.place l.graph l.marks.items l.invariant c.entry-e.result c.entry-e.ensures
    c.enter.new.self c.push.new.self.items c.enter.ensures (c.in_ok-push.ensures.items ∙ ap (λ (m : Mark). l.marks.items ++ m ∷ []) c.mark_of.ensures)

pub returns : goal.returns
returns c =
    let p = c.args.program.now in
    let l = c.loop-place in
    let over : length c.args.trace.now.entries ≤ l.place = omega (arith, c.loop-place-test.false, c.len-count.ensures) in
    record {
      marks = all_marks (thread_count p) (lock_count p) c.args.trace.now.entries c.requires.told l.place l.graph l.marks.items l.invariant over;
      outcome = c.outcome_of-outcome.ensures ∙ ap (λ n. outcome_by n (past l.graph.entries)) l.invariant.threads ∙ ap (outcome_by (thread_count p)) (whole (thread_count p) (lock_count p) c.args.trace.now.entries c.requires.told l.place l.graph l.marks.items l.invariant over);
    }
