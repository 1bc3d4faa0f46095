use Rattle.std.proofs.Common.{◌+◌, [], arith, refl, sym, ap, ◌∙◌, subst}
use Rattle.std.proofs.lemmas.Result.{err_from_is_err_and}
use Rattle.dim_text.specs.Reading.{read_from}
use Rattle.dim_log.specs.Faults.{fault, fault_of}
use Rattle.dim_log.specs.Saying.{step, at_end, log_of}
use Rattle.dim_log.specs.Reader.{said, weight, weight_of, read_value, HasRoom}
use Rattle.dim_log.proofs.Endings.{last_ends, failing, going_on, exits, ended}
use Rattle.dim_log.proofs.Taking.{fewer_room}
use Rattle.dim_log.proofs.Weighing.{weighed_text}
use Rattle.dim_log.proofs.reading.read_lines.Goals as goal

pub loop-line-init : goal.loop-line-init
loop-line-init c =
    let bytes = c.args.bytes.now in
    record {
      same = ap (λ s. read_from fault step at_end s 1 c.lines-lines.result) c.new-reader.ensures.said ∙ ap (read_from fault step at_end [] 1) c.lines-lines.ensures;
      reading = c.new-reader.ensures.reading;
      room = c.new-reader.ensures.room (weight_of c.lines-lines.result) (omega (arith, ap weight_of c.lines-lines.ensures, weighed_text bytes, c.requires));
      number = omega (arith, ap weight_of c.lines-lines.ensures, weighed_text bytes, c.requires);
    }

pub step-requires-clause-room : goal.step-requires-clause-room
step-requires-clause-room c =
    fewer_room c.loop-line.reader (weight c.in-Some.line.now) (weight_of c.loop-line.lines) (omega (arith, ap weight_of c.in-Some.ensures.0)) c.loop-line.invariant.room

pub overflow_add-number : goal.overflow_add-number
overflow_add-number c = omega (arith, ap weight_of c.in-Some.ensures.0, c.loop-line.invariant.number)

pub loop-line-preserved : goal.loop-line-preserved
loop-line-preserved c =
    let rest = c.next_ended.new.self in
    let r = c.loop-line.reader in
    let room : HasRoom r (weight c.in-Some.line.now + weight_of rest) = subst (HasRoom r) (ap weight_of c.in-Some.ensures.0) c.loop-line.invariant.room in
    record {
      same = going_on (said r) (said c.step.new.self) c.loop-line.number c.in-Some.line.now rest c.loop-line.lines (log_of c.args.bytes.now) c.in-Some.ensures.0 c.in-Some.ensures.1 c.loop-line.invariant.same c.in_ok-step.ensures.value;
      reading = c.in_ok-step.ensures.reading;
      room = c.in_ok-step.ensures.room (weight_of rest) room;
      number = omega (arith, ap weight_of c.in-Some.ensures.0, c.loop-line.invariant.number);
    }

pub returns-in_err-step-clause-value : goal.returns-in_err-step-clause-value
returns-in_err-step-clause-value c =
    let p = err_from_is_err_and c.from_residual.result c.from_residual.ensures.1 in
    let all = failing (said c.loop-line.reader) c.loop-line.number c.in-Some.line.now c.next_ended.new.self c.loop-line.lines (log_of c.args.bytes.now) (fault_of c.in_err-step.field-0.0) c.in-Some.ensures.0 c.in-Some.ensures.1 c.loop-line.invariant.same c.in_err-step.ensures.value in
    exits fault_of (λ r. read_value r.0 r.1) c.from_residual.result p.0 c.in_err-step.field-0.0 (log_of c.args.bytes.now) p.1 p.2 all

pub returns-clause-value : goal.returns-clause-value
returns-clause-value c =
    let s = said c.loop-line.reader in
    let n = c.loop-line.number in
    let last = c.unwrap_or-last.result.now in
    let whole = sym (last_ends s n c.loop-line.lines c.next_ended.new.self c.next_part.new.self c.next_part.result c.unwrap_or-last.result _ c.in_default.ensures.0 c.in_default.ensures.1 c.next_part.ensures c.unwrap_or-last.ensures refl) ∙ c.loop-line.invariant.same in
    sym whole ∙ ended s n last c.is_empty.result c.is_empty.ensures
