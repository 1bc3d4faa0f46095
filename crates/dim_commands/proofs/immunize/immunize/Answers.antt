use Rattle.std.proofs.Common.{◌≡◌, Some, ◌∙◌, subst}
use Rattle.std.proofs.lemmas.Result.{err_from_is_err_and}
use Rattle.dim_words.specs.Commands.{immunize_words}
use Rattle.dim_inquiry.specs.declared.report.Report.{Report}
use Rattle.dim_inquiry.specs.Course.{Stops, Runs, WhereTold}
use Rattle.dim_commands.specs.Immunize.{attempts_left}
use Rattle.dim_inquiry.specs.Inputs.{inputs_of}
use Rattle.dim_commands.specs.Run.{stores_left}
use Rattle.dim_inquiry.specs.Taking.{fetches_inputs}
use Rattle.dim_inquiry.proofs.Exports.{later}
use Rattle.dim_commands.proofs.ImmunizeLemmas.{immunized_so}
use Rattle.dim_commands.proofs.RunLemmas.{IsGot, at_inputs, at_stores, at_building}
use Rattle.dim_commands.proofs.immunize.immunize.Goals as goal

pub returns-in_err-inputs-clause-runs : goal.returns-in_err-inputs-clause-runs
returns-in_err-inputs-clause-runs g c =
    λ files told.
    let p = err_from_is_err_and c.from_residual.result c.from_residual.ensures.1 in
    let w = immunize_words c.args.command.now in
    let stopped : Stops (fetches_inputs files w.run.program w.run.history) files p.0 (g.F.Files.told c.fetch_inputs.new.files) = rw p.2 (c.in_err-inputs.ensures.runs files told) in
    rw p.1 (at_inputs (attempts_left w.run.settings w.attempts) files w.run p.0 _ stopped)

pub returns-in_err-output-clause-runs : goal.returns-in_err-output-clause-runs
returns-in_err-output-clause-runs g c =
    λ files told.
    let p = err_from_is_err_and c.from_residual-in_err-output.result c.from_residual-in_err-output.ensures.1 in
    let w = immunize_words c.args.command.now in
    let x = inputs_of c.in_ok-inputs.inputs in
    let got = c.in_ok-inputs.ensures.runs files told in
    let is : IsGot files w.run x (g.F.Files.told c.fetch_inputs.new.files) = record { got = got.0; made = got.1; kept = c.in_ok-inputs.ensures.kept ∙ told } in
    rw (p.1, p.2) (at_building (attempts_left w.run.settings w.attempts) files w.run x _ is)

pub returns-clause-runs : goal.returns-clause-runs
returns-clause-runs g c =
    λ files told.
    let w = immunize_words c.args.command.now in
    let x = inputs_of c.in_ok-inputs.inputs in
    let left = attempts_left w.run.settings w.attempts in
    let got = c.in_ok-inputs.ensures.runs files told in
    let is : IsGot files w.run x (g.F.Files.told c.fetch_inputs.new.files) = record { got = got.0; made = got.1; kept = c.in_ok-inputs.ensures.kept ∙ told } in
    at_stores left files w.run x _ is c.store_left.result _
    (subst (λ l. Runs (λ (r : Report). r) (stores_left w.run.new_history w.run.trace l) files c.store_left.result (g.F.Files.told c.store_left.new.files)) c.in_ok-output.ensures.left (c.store_left.ensures.runs files is.kept))

pub returns-clause-stored : goal.returns-clause-stored
returns-clause-stored g c =
    let w = immunize_words c.args.command.now in
    let x = inputs_of c.in_ok-inputs.inputs in
    let told = g.F.Files.told c.args.files.now in
    let middle = g.F.Files.told c.fetch_inputs.new.files in
    let kept : WhereTold told (λ files. middle ≡ Some files) = λ files told. c.in_ok-inputs.ensures.kept ∙ told in
    immunized_so w x c.store_left.result told middle (g.F.Files.told c.store_left.new.files) c.requires.apart c.in_ok-output.ensures.lawful c.in_ok-inputs.ensures.taken
    (λ files is. let got = c.in_ok-inputs.ensures.runs files is in record { got = got.0; made = got.1; kept = kept files is })
    (λ files is. subst (λ l. Runs (λ (r : Report). r) (stores_left w.run.new_history w.run.trace l) files c.store_left.result (g.F.Files.told c.store_left.new.files)) c.in_ok-output.ensures.left (c.store_left.ensures.runs files (kept files is)))

pub returns-clause-cause : goal.returns-clause-cause
returns-clause-cause g c = later _ _ _ c.store_left.result c.in_ok-inputs.ensures.cause c.store_left.ensures.cause
