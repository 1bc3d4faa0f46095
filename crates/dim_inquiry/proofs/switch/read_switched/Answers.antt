use Rattle.std.proofs.Common.{Some, Ok, sym, ap, ◌∙◌}
use Rattle.std.proofs.lemmas.Result.{err_from_is_err_and}
use Rattle.dim_history_file.specs.Seen.{value_of}
use Rattle.dim_words.specs.Commands.{switch_words}
use Rattle.dim_inquiry.specs.Course.{Stops}
use Rattle.dim_inquiry.specs.Switch.{numbers}
use Rattle.dim_inquiry.specs.Taking.{reads}
use Rattle.dim_inquiry.proofs.SwitchLemmas.{at_text, at_number, at_switched}
use Rattle.dim_inquiry.proofs.switch.read_switched.Goals as goal

pub returns-in_err-history-clause-runs : goal.returns-in_err-history-clause-runs
returns-in_err-history-clause-runs c =
    λ before.
    let p = err_from_is_err_and c.from_residual.result c.from_residual.ensures.1 in
    let stopped : Stops (reads c.args.bytes.now) before p.0 (Some before) = rw p.2 (c.in_err-history.ensures.runs before) in
    rw p.1 (at_text (switch_words c.args.command.now) c.args.bytes.now before p.0 _ stopped)

pub returns-in_err-check_number-clause-runs : goal.returns-in_err-check_number-clause-runs
returns-in_err-check_number-clause-runs c =
    λ before.
    let p = err_from_is_err_and c.from_residual-in_err-check_number.result c.from_residual-in_err-check_number.ensures.1 in
    let sigs = value_of c.in_ok-history.history in
    let stopped : Stops (numbers sigs c.args.command.now.index) before p.0 (Some before) = rw p.2 (c.in_err-check_number.ensures.runs before) in
    rw p.1 (at_number (switch_words c.args.command.now) c.args.bytes.now sigs before p.0 _ (c.in_ok-history.ensures.runs before).0 stopped)

pub returns-clause-runs : goal.returns-clause-runs
returns-clause-runs c =
    λ before.
    let sigs = value_of c.in_ok-history.history in
    let runs = at_switched (switch_words c.args.command.now) c.args.bytes.now sigs before (c.in_ok-history.ensures.runs before).0 (c.in_ok-check_number.ensures.runs before) in
    (runs.0 ∙ ap Ok (sym c.switched_history.ensures), runs.1)
