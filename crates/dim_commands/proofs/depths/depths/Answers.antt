use Rattle.std.proofs.Common.{◌≡◌, Result, Ok, sym, ◌∙◌, subst}
use Rattle.std.proofs.lemmas.Result.{err_from_is_err_and}
use Rattle.dim_inquiry.specs.declared.report.Report.{Report}
use Rattle.dim_words.specs.Commands.{check_words}
use Rattle.dim_inquiry.specs.Course.{Stops, Runs}
use Rattle.dim_inquiry.specs.Judging.{Given, judged_course, given_of}
use Rattle.dim_execution.specs.Start.{gate_of}
use Rattle.dim_rag.specs.History.{past}
use Rattle.dim_tune.specs.Depths.{AreLeastDepths}
use Rattle.dim_inquiry.specs.declared.stop.Refusal.{Refusal}
use Rattle.dim_commands.specs.Depths.{depths_course, least_of, told}
use Rattle.dim_inquiry.proofs.Exports.{at_judging, at_building, at_report}
use Rattle.dim_commands.proofs.depths.depths.Goals as goal

pub returns-in_err-given-clause-runs : goal.returns-in_err-given-clause-runs
returns-in_err-given-clause-runs g c =
    λ files is_told.
    let p = err_from_is_err_and c.from_residual.result c.from_residual.ensures.1 in
    let w = check_words c.args.command.now in
    let stopped : Stops (judged_course files w) files p.0 (g.F.Files.told c.judged.new.files) = rw p.2 (c.in_err-given.ensures.runs files is_told) in
    rw p.1 (at_judging told files w p.0 _ stopped)

pub returns-in_err-told-clause-runs : goal.returns-in_err-told-clause-runs
returns-in_err-told-clause-runs g c =
    λ files is_told.
    let p = err_from_is_err_and c.from_residual-in_err-told.result c.from_residual-in_err-told.ensures.1 in
    let w = check_words c.args.command.now in
    let judged = c.in_ok-given.ensures.runs files is_told in
    rw (p.1, p.2) (at_building told files w (given_of c.in_ok-given.given) _ judged.0 judged.1)

pub returns-clause-runs : goal.returns-clause-runs
returns-clause-runs g c =
    λ files is_told.
    let w = check_words c.args.command.now in
    let judged = c.in_ok-given.ensures.runs files is_told in
    subst (λ r. Runs (λ (x : Report). x) (depths_course files w) files (Ok r) (g.F.Files.told c.judged.new.files)) (sym c.in_ok-told.ensures.report)
    (at_report told files w (given_of c.in_ok-given.given) _ judged.0 judged.1)

same_given : (a b : Given) → ◌≡◌ {A = Result Given Refusal} (Ok a) (Ok b) → a ≡ b
same_given a b e = cc

pub returns-clause-least : goal.returns-clause-least
returns-clause-least g c =
    λ files is_told other judged.
    let w = check_words c.args.command.now in
    let so = c.in_ok-given.ensures.runs files is_told in
    subst (λ (x : Given). AreLeastDepths (gate_of x.program x.loaded x.trace.depth) (past x.trace.entries) (least_of x))
    (same_given (given_of c.in_ok-given.given) other (sym so.0 ∙ judged)) c.in_ok-told.ensures.least
