use Rattle.std.proofs.Common.{◌≡◌, ◌+◌, length, arith, refl, sym, ap, ◌∙◌, subst}
use Rattle.std.proofs.lemmas.Result.{err_from_is_err_and}
use Rattle.dim_text.specs.Reading.{Fails, in_line, read_from}
use Rattle.dim_text.proofs.Exports.{in_line_ok}
use Rattle.dim_stack.specs.Names.{table_of, HasNames}
use Rattle.dim_history_file.specs.Faults.{fault, fault_of}
use Rattle.dim_history_file.specs.Judging.{step, at_end, start, history_of}
use Rattle.dim_history_file.specs.Spelling.{lines_so_far}
use Rattle.dim_history_file.specs.Grammar.{FitsStage}
use Rattle.dim_history_file.specs.Naming.{names_in, names_in_line, names_in_lines}
use Rattle.dim_history_file.specs.Reader.{sigs_of, state_of}
use Rattle.dim_history_file.proofs.Endings.{last_ends, failing, going_on, judged_end, good_end, exits}
use Rattle.dim_history_file.proofs.Moving.{fits_start, line_after}
use Rattle.dim_history_file.proofs.Using.{has_all, has_left, has_right}
use Rattle.dim_history_file.proofs.reading.read_lines.Goals as goal

pub loop-line-init : goal.loop-line-init
loop-line-init c =
    let bytes = c.args.bytes.now in
    let state : state_of c.new-reader.result ≡ start = c.new-reader.ensures.state in
    let names : c.new-reader.result.names ≡ table_of (names_in bytes) = c.new-reader.ensures.names ∙ c.in_ok-names.ensures in
    record {
      same = ap (λ s. read_from fault step at_end s 1 c.lines-lines.result) state ∙ ap (read_from fault step at_end start 1) c.lines-lines.ensures;
      names = names;
      reading = c.new-reader.ensures.reading;
      fits = subst FitsStage (sym state) fits_start;
      covers = subst (λ t. HasNames t (names_in_lines c.lines-lines.result)) (sym names) (subst (λ ls. HasNames (table_of (names_in bytes)) (names_in_lines ls)) (sym c.lines-lines.ensures) (has_all (names_in bytes)));
      number = ap (λ s. 1 + length (lines_so_far s)) (sym state);
    }

pub step-requires-clause-covers : goal.step-requires-clause-covers
step-requires-clause-covers c =
    let names = c.loop-line.reader.names in
    has_left names (names_in_line c.in-Some.line.now) (names_in_lines c.next_ended.new.self) (subst (λ ls. HasNames names (names_in_lines ls)) c.in-Some.ensures.0 c.loop-line.invariant.covers)

pub returns-in_err-step-clause-value : goal.returns-in_err-step-clause-value
returns-in_err-step-clause-value c =
    let p = err_from_is_err_and c.from_residual-in_err-step.result c.from_residual-in_err-step.ensures.1 in
    let all = failing (state_of c.loop-line.reader) c.loop-line.number c.in-Some.line.now c.next_ended.new.self c.loop-line.lines (history_of c.args.bytes.now) (fault_of c.in_err-step.field-0.0) c.in-Some.ensures.0 c.in-Some.ensures.1 c.loop-line.invariant.same c.in_err-step.ensures.value in
    exits fault_of sigs_of c.from_residual-in_err-step.result p.0 c.in_err-step.field-0.0 (history_of c.args.bytes.now) p.1 p.2 all

pub overflow_add-number : goal.overflow_add-number
overflow_add-number c =
    let s = state_of c.loop-line.reader in
    let t = state_of c.step.new.self in
    let n = c.loop-line.number in
    let taken = in_line_ok fault n (step s c.in-Some.line.now) t c.in_ok-step.ensures.value in
    omega (arith, (line_after s t c.in-Some.line.now n c.loop-line.invariant.fits taken c.loop-line.invariant.number).2)

pub loop-line-preserved : goal.loop-line-preserved
loop-line-preserved c =
    let s = state_of c.loop-line.reader in
    let t = state_of c.step.new.self in
    let n = c.loop-line.number in
    let line = c.in-Some.line.now in
    let rest = c.next_ended.new.self in
    let old = c.loop-line.reader.names in
    let kept : c.step.new.self.names ≡ old = c.in_ok-step.ensures.names in
    let taken = in_line_ok fault n (step s line) t c.in_ok-step.ensures.value in
    let after = line_after s t line n c.loop-line.invariant.fits taken c.loop-line.invariant.number in
    let covers = has_right old (names_in_line line) (names_in_lines rest) (subst (λ ls. HasNames old (names_in_lines ls)) c.in-Some.ensures.0 c.loop-line.invariant.covers) in
    record {
      same = going_on s t n line rest c.loop-line.lines (history_of c.args.bytes.now) c.in-Some.ensures.0 c.in-Some.ensures.1 c.loop-line.invariant.same c.in_ok-step.ensures.value;
      names = kept ∙ c.loop-line.invariant.names;
      reading = c.in_ok-step.ensures.reading;
      fits = after.0;
      covers = subst (λ t. HasNames t (names_in_lines rest)) (sym kept) covers;
      number = after.1;
    }

pub returns-in_err-in_line-clause-value : goal.returns-in_err-in_line-clause-value
returns-in_err-in_line-clause-value c =
    let s = state_of c.loop-line.reader in
    let n = c.loop-line.number in
    let last = c.unwrap_or-last.result.now in
    let p = err_from_is_err_and c.from_residual-in_err-in_line.result c.from_residual-in_err-in_line.ensures.1 in
    let e = c.in_err-in_line.field-0.0 in
    let end = judged_end n (sigs_of c.loop-line.reader) c.finish.result (at_end s last) e c.finish.ensures (sym c.in_err-in_line.ensures) in
    let whole = sym (last_ends s n c.loop-line.lines c.next_ended.new.self c.next_part.new.self c.next_part.result c.unwrap_or-last.result _ c.in_default.ensures.0 c.in_default.ensures.1 c.next_part.ensures c.unwrap_or-last.ensures refl) ∙ c.loop-line.invariant.same in
    exits fault_of sigs_of c.from_residual-in_err-in_line.result p.0 e (history_of c.args.bytes.now) p.1 p.2 (subst (Fails (fault_of e)) whole end)

pub returns-clause-value : goal.returns-clause-value
returns-clause-value c =
    let s = state_of c.loop-line.reader in
    let n = c.loop-line.number in
    let last = c.unwrap_or-last.result.now in
    let good = good_end n (sigs_of c.loop-line.reader) c.finish.result c.in_ok-in_line.field-0 (at_end s last) c.finish.ensures (sym c.in_ok-in_line.ensures) in
    let whole = sym (last_ends s n c.loop-line.lines c.next_ended.new.self c.next_part.new.self c.next_part.result c.unwrap_or-last.result _ c.in_default.ensures.0 c.in_default.ensures.1 c.next_part.ensures c.unwrap_or-last.ensures refl) ∙ c.loop-line.invariant.same in
    sym whole ∙ ap (in_line fault n) good
