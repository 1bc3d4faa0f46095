use Rattle.std.proofs.Common.{arith, refl, sym, ap, ◌∙◌, subst}
use Rattle.std.proofs.lemmas.Result.{err_from_is_err_and}
use Rattle.dim_text.specs.Reading.{Fails, in_line}
use Rattle.dim_text.proofs.Exports.{in_line_ok}
use Rattle.dim_asm.specs.Faults.{fault, fault_of}
use Rattle.dim_asm.specs.Judging.{step, at_end, source_of}
use Rattle.dim_asm.specs.Reader.{read, state_of}
use Rattle.dim_asm.proofs.LinkLemmas.{exits}
use Rattle.dim_asm.proofs.Endings.{last_ends, failing, going_on, judged_end, good_end}
use Rattle.dim_asm.proofs.Fitting.{line_after, end_whole}
use Rattle.dim_asm.proofs.assembler.read.Goals as goal

pub returns-in_err-step-clause-source : goal.returns-in_err-step-clause-source
returns-in_err-step-clause-source c =
    let p = err_from_is_err_and c.from_residual.result c.from_residual.ensures.1 in
    let o = fault_of c.in_err-step.field-0.0 in
    let all = failing (state_of c.loop-line.reader) c.loop-line.number c.in-Some.line.now c.next_ended.new.self c.loop-line.lines (source_of c.args.bytes.now) o c.in-Some.ensures.0 c.in-Some.ensures.1 c.loop-line.invariant.same c.in_err-step.ensures.step in
    exits fault_of read c.from_residual.result p.0 c.in_err-step.field-0.0 (source_of c.args.bytes.now) p.1 p.2 all

pub overflow_add-number : goal.overflow_add-number
overflow_add-number c =
    let s = state_of c.loop-line.reader in
    let t = state_of c.step.new.self in
    let n = c.loop-line.number in
    let taken = in_line_ok fault n (step s c.in-Some.line.now) t c.in_ok-step.ensures.step in
    omega (arith, (line_after s t c.in-Some.line.now n c.loop-line.invariant.fits taken c.loop-line.invariant.number).2)

pub loop-line-preserved : goal.loop-line-preserved
loop-line-preserved c =
    let s = state_of c.loop-line.reader in
    let t = state_of c.step.new.self in
    let n = c.loop-line.number in
    let taken = in_line_ok fault n (step s c.in-Some.line.now) t c.in_ok-step.ensures.step in
    let after = line_after s t c.in-Some.line.now n c.loop-line.invariant.fits taken c.loop-line.invariant.number in
    record {
      same = going_on s t n c.in-Some.line.now c.next_ended.new.self c.loop-line.lines (source_of c.args.bytes.now) c.in-Some.ensures.0 c.in-Some.ensures.1 c.loop-line.invariant.same c.in_ok-step.ensures.step;
      counted = c.in_ok-step.ensures.counted;
      fits = after.0;
      number = after.1;
    }

pub returns-in_err-in_line-clause-source : goal.returns-in_err-in_line-clause-source
returns-in_err-in_line-clause-source c =
    let s = state_of c.loop-line.reader in
    let n = c.loop-line.number in
    let last = c.unwrap_or-last.result.now in
    let p = err_from_is_err_and c.from_residual-in_err-in_line.result c.from_residual-in_err-in_line.ensures.1 in
    let o = fault_of c.in_err-in_line.field-0.0 in
    let end = judged_end n (read c.loop-line.reader) c.finish.result (at_end s last) o c.finish.ensures c.in_err-in_line.ensures in
    let whole = sym (last_ends s n c.loop-line.lines c.next_ended.new.self c.next_part.new.self c.next_part.result c.unwrap_or-last.result _ c.in_default.ensures.0 c.in_default.ensures.1 c.next_part.ensures c.unwrap_or-last.ensures refl) ∙ c.loop-line.invariant.same in
    exits fault_of read c.from_residual-in_err-in_line.result p.0 c.in_err-in_line.field-0.0 (source_of c.args.bytes.now) p.1 p.2 (subst (Fails o) whole end)

pub returns-clause-source : goal.returns-clause-source
returns-clause-source c =
    let s = state_of c.loop-line.reader in
    let n = c.loop-line.number in
    let last = c.unwrap_or-last.result.now in
    let good = good_end n (read c.loop-line.reader) c.finish.result c.in_ok-in_line.field-0 (at_end s last) c.finish.ensures c.in_ok-in_line.ensures in
    let whole = sym (last_ends s n c.loop-line.lines c.next_ended.new.self c.next_part.new.self c.next_part.result c.unwrap_or-last.result _ c.in_default.ensures.0 c.in_default.ensures.1 c.next_part.ensures c.unwrap_or-last.ensures refl) ∙ c.loop-line.invariant.same in
    sym whole ∙ ap (in_line fault n) good

pub returns-clause-sound : goal.returns-clause-sound
returns-clause-sound c =
    let s = state_of c.loop-line.reader in
    let n = c.loop-line.number in
    let last = c.unwrap_or-last.result.now in
    let good = good_end n (read c.loop-line.reader) c.finish.result c.in_ok-in_line.field-0 (at_end s last) c.finish.ensures c.in_ok-in_line.ensures in
    (end_whole s last (read c.loop-line.reader) c.loop-line.invariant.fits good).1
