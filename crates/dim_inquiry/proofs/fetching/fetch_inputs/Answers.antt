use Rattle.std.proofs.Common.{◌∙◌, arith}
use Rattle.std.proofs.lemmas.Result.{err_from_is_err_and}
use Rattle.dim_inquiry.specs.declared.stop.Place.TheVariants.{Program}
use Rattle.dim_inquiry.specs.Course.{Stops, fetches}
use Rattle.dim_inquiry.specs.Inputs.{inputs_of}
use Rattle.dim_inquiry.specs.Taking.{fetches_history}
use Rattle.dim_inquiry.proofs.FetchLemmas.{at_program, at_history, at_texts, taken_so}
use Rattle.dim_inquiry.proofs.CourseLemmas.{calm}
use Rattle.dim_inquiry.proofs.fetching.fetch_inputs.Goals as goal

pub returns-in_err-program-clause-runs : goal.returns-in_err-program-clause-runs
returns-in_err-program-clause-runs g c =
    λ files told.
    let p = err_from_is_err_and c.from_residual.result c.from_residual.ensures.1 in
    let name = c.args.program.now in
    let stopped : Stops (fetches files Program name 4194304) files p.0 (g.F.Files.told c.fetch_at.new.files) = rw p.2 (c.in_err-program.ensures.runs files told) in
    rw p.1 (at_program files name c.args.history.now p.0 _ stopped)

pub returns-in_err-history-clause-runs : goal.returns-in_err-history-clause-runs
returns-in_err-history-clause-runs g c =
    λ files told.
    let p = err_from_is_err_and c.from_residual-in_err-history.result c.from_residual-in_err-history.ensures.1 in
    let name = c.args.history.now in
    let got = c.in_ok-program.ensures.runs files told in
    let stopped : Stops (fetches_history files name) files p.0 (g.F.Files.told c.fetch_history.new.files) = rw p.2 (c.in_err-history.ensures.runs files got.1) in
    rw p.1 (at_history files c.args.program.now name c.in_ok-program.program p.0 _ got.0 stopped)

pub returns-clause-runs : goal.returns-clause-runs
returns-clause-runs g c =
    λ files told.
    let got = c.in_ok-program.ensures.runs files told in
    let history = c.in_ok-history.ensures.runs files got.1 in
    at_texts files c.args.program.now c.args.history.now inputs_of c.in_ok-program.program c.in_ok-history.history c.take_inputs.result _ got.0 history.0 history.1 (c.in_ok-history.ensures.kept ∙ got.1)
    (c.take_inputs.ensures.runs files)

pub returns-clause-taken : goal.returns-clause-taken
returns-clause-taken g c =
    taken_so (g.F.Files.told c.args.files.now) c.args.program.now c.args.history.now c.in_ok-program.program c.in_ok-history.history c.take_inputs.result
    (λ files told. (c.in_ok-program.ensures.runs files told).0) (λ files told. (c.in_ok-history.ensures.runs files (c.in_ok-program.ensures.runs files told).1).0)
    c.take_inputs.ensures.assembled c.take_inputs.ensures.read

pub returns-clause-cause : goal.returns-clause-cause
returns-clause-cause g c =
    let first = c.in_ok-program.ensures.cause in
    let second = c.in_ok-history.ensures.cause in
    calm _ _ c.take_inputs.result c.take_inputs.ensures.faultless (omega (arith, first, second))
