use Rattle.std.proofs.Common.{Some}
use Rattle.std.proofs.lemmas.Result.{err_from_is_err_and}
use Rattle.dim_history_file.specs.Seen.{value_of}
use Rattle.dim_inquiry.specs.Course.{Stops}
use Rattle.dim_inquiry.specs.Taking.{assembles, reads, loads}
use Rattle.dim_inquiry.proofs.InputLemmas.{at_program, at_history, at_room, at_inputs}
use Rattle.dim_inquiry.proofs.inputs.take_inputs.Goals as goal

pub returns-in_err-program-clause-runs : goal.returns-in_err-program-clause-runs
returns-in_err-program-clause-runs c =
    λ before.
    let p = err_from_is_err_and c.from_residual.result c.from_residual.ensures.1 in
    let stopped : Stops (assembles c.args.program.now) before p.0 (Some before) = rw p.2 (c.in_err-program.ensures.runs before) in
    rw p.1 (at_program c.args.program.now c.args.history.now before p.0 _ stopped)

pub returns-in_err-loaded-clause-runs : goal.returns-in_err-loaded-clause-runs
returns-in_err-loaded-clause-runs c =
    λ before.
    let p = err_from_is_err_and c.from_residual-in_err-loaded.result c.from_residual-in_err-loaded.ensures.1 in
    let stopped : Stops (reads c.args.history.now) before p.0 (Some before) = rw p.2 (c.in_err-loaded.ensures.runs before) in
    rw p.1 (at_history c.args.program.now c.args.history.now c.in_ok-program.program before p.0 _ (c.in_ok-program.ensures.runs before).0 stopped)

pub returns-in_err-check_room-clause-runs : goal.returns-in_err-check_room-clause-runs
returns-in_err-check_room-clause-runs c =
    λ before.
    let p = err_from_is_err_and c.from_residual-in_err-check_room.result c.from_residual-in_err-check_room.ensures.1 in
    let sigs = value_of c.in_ok-loaded.loaded in
    let stopped : Stops (loads sigs c.args.history.now) before p.0 (Some before) = rw p.2 (c.in_err-check_room.ensures.runs before) in
    rw p.1 (at_room c.args.program.now c.args.history.now c.in_ok-program.program sigs before p.0 _ (c.in_ok-program.ensures.runs before).0 (c.in_ok-loaded.ensures.runs before).0 stopped)

pub returns-clause-runs : goal.returns-clause-runs
returns-clause-runs c =
    λ before.
    let sigs = value_of c.in_ok-loaded.loaded in
    at_inputs c.args.program.now c.args.history.now c.in_ok-program.program sigs before (c.in_ok-program.ensures.runs before).0 (c.in_ok-loaded.ensures.runs before).0 (c.in_ok-check_room.ensures.runs before)
