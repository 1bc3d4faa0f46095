use Rattle.std.proofs.Common.{◌≡◌, Some, Ok, sym, ap, ◌∙◌, subst}
use Rattle.std.proofs.lemmas.Result.{err_from_is_err_and}
use Rattle.dim_base.specs.Files.{with_file}
use Rattle.dim_history_file.specs.Judging.{history_of}
use Rattle.dim_history_file.specs.Seen.{value_of}
use Rattle.dim_history_file.specs.Spelling.{history_text}
use Rattle.dim_words.specs.Commands.{predict_words}
use Rattle.dim_inquiry.specs.declared.report.Report.{Report}
use Rattle.dim_inquiry.specs.declared.stop.Place.TheVariants.{NewHistory}
use Rattle.dim_inquiry.specs.Course.{Stops, Runs, after_calls, stores}
use Rattle.dim_inquiry.specs.Judging.{judged_course, given_of}
use Rattle.dim_inquiry.specs.Predict.{foretells, foretold_of, predict_course}
use Rattle.dim_inquiry.proofs.PredictLemmas.{at_judging, at_foretelling, at_building, at_storing, at_end, reads_again, still}
use Rattle.dim_inquiry.proofs.predict.predict.Goals as goal

pub returns-in_err-given-clause-runs : goal.returns-in_err-given-clause-runs
returns-in_err-given-clause-runs g c =
    λ files told.
    let p = err_from_is_err_and c.from_residual.result c.from_residual.ensures.1 in
    let w = predict_words c.args.command.now in
    let stopped : Stops (judged_course files w.judged) files p.0 (g.F.Files.told c.judged.new.files) = rw p.2 (c.in_err-given.ensures.runs files told) in
    rw p.1 (at_judging files w p.0 _ stopped)

pub returns-in_err-prediction-clause-runs : goal.returns-in_err-prediction-clause-runs
returns-in_err-prediction-clause-runs g c =
    λ files told.
    let p = err_from_is_err_and c.from_residual-in_err-prediction.result c.from_residual-in_err-prediction.ensures.1 in
    let w = predict_words c.args.command.now in
    let given = given_of c.in_ok-given.given in
    let judged = c.in_ok-given.ensures.runs files told in
    let before = after_calls (judged_course files w.judged).calls files in
    let stopped : Stops (foretells w.depth given) before p.0 (Some before) = rw p.2 (c.in_err-prediction.ensures.runs before) in
    rw p.1 (at_foretelling files w given judged.0 p.0 _ (subst (Stops (foretells w.depth given) before p.0) (sym judged.1) stopped))

pub returns-in_err-report-clause-runs : goal.returns-in_err-report-clause-runs
returns-in_err-report-clause-runs g c =
    λ files told.
    let p = err_from_is_err_and c.from_residual-in_err-report.result c.from_residual-in_err-report.ensures.1 in
    let w = predict_words c.args.command.now in
    let given = given_of c.in_ok-given.given in
    let judged = c.in_ok-given.ensures.runs files told in
    let before = after_calls (judged_course files w.judged).calls files in
    let told_so = c.in_ok-prediction.ensures.runs before in
    rw (p.1, p.2) (at_building files w given judged.0 (foretold_of c.in_ok-prediction.prediction) told_so.0 (still before _ told_so.1) _ judged.1)

pub returns-in_err-text-clause-runs : goal.returns-in_err-text-clause-runs
returns-in_err-text-clause-runs g c =
    λ files told.
    let p = err_from_is_err_and c.from_residual-in_err-text.result c.from_residual-in_err-text.ensures.1 in
    let w = predict_words c.args.command.now in
    let given = given_of c.in_ok-given.given in
    let judged = c.in_ok-given.ensures.runs files told in
    let before = after_calls (judged_course files w.judged).calls files in
    let told_so = c.in_ok-prediction.ensures.runs before in
    rw (p.1, p.2) (at_building files w given judged.0 (foretold_of c.in_ok-prediction.prediction) told_so.0 (still before _ told_so.1) _ judged.1)

pub returns-in_err-store_at-clause-runs : goal.returns-in_err-store_at-clause-runs
returns-in_err-store_at-clause-runs g c =
    λ files told.
    let p = err_from_is_err_and c.from_residual-in_err-store_at.result c.from_residual-in_err-store_at.ensures.1 in
    let w = predict_words c.args.command.now in
    let given = given_of c.in_ok-given.given in
    let f = foretold_of c.in_ok-prediction.prediction in
    let judged = c.in_ok-given.ensures.runs files told in
    let before = after_calls (judged_course files w.judged).calls files in
    let told_so = c.in_ok-prediction.ensures.runs before in
    let text : c.as_slice-new_history.result.now ≡ history_text f.sigs = c.as_slice-new_history.ensures ∙ c.in_ok-text.ensures.text in
    let stopped : Stops (stores NewHistory w.new_history c.as_slice-new_history.result.now) before p.0 (g.F.Files.told c.store_at.new.files) = rw p.2 (c.in_err-store_at.ensures.runs before judged.1) in
    rw p.1 (at_storing files w given judged.0 f told_so.0 (still before _ told_so.1) p.0 _ (subst (λ t. Stops (stores NewHistory w.new_history t) before p.0 (g.F.Files.told c.store_at.new.files)) text stopped))

pub returns-clause-runs : goal.returns-clause-runs
returns-clause-runs g c =
    λ files told.
    let w = predict_words c.args.command.now in
    let given = given_of c.in_ok-given.given in
    let f = foretold_of c.in_ok-prediction.prediction in
    let judged = c.in_ok-given.ensures.runs files told in
    let before = after_calls (judged_course files w.judged).calls files in
    let told_so = c.in_ok-prediction.ensures.runs before in
    let text : c.as_slice-new_history.result.now ≡ history_text f.sigs = c.as_slice-new_history.ensures ∙ c.in_ok-text.ensures.text in
    let stored = (c.in_ok-store_at.ensures.runs before judged.1).1 ∙ ap (λ t. Some (with_file before w.new_history (Some t))) text in
    subst (λ r. Runs (λ (x : Report). x) (predict_course files w) files (Ok r) (g.F.Files.told c.store_at.new.files)) (sym c.in_ok-report.ensures)
    (at_end files w given judged.0 f told_so.0 (still before _ told_so.1) _ stored)

pub returns-clause-again : goal.returns-clause-again
returns-clause-again g c =
    λ files told.
    let w = predict_words c.args.command.now in
    let given = given_of c.in_ok-given.given in
    let judged = c.in_ok-given.ensures.runs files told in
    let before = after_calls (judged_course files w.judged).calls files in
    let told_so = c.in_ok-prediction.ensures.runs before in
    let again = subst (λ t. history_of t ≡ Ok (value_of c.in_ok-prediction.prediction.history)) c.in_ok-text.ensures.text (c.in_ok-text.ensures.again c.in_ok-prediction.ensures.near) in
    reads_again files w given judged.0 (foretold_of c.in_ok-prediction.prediction) told_so.0 again
