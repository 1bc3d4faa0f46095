use Rattle.std.proofs.Common.{Ok, sym, subst}
use Rattle.std.proofs.lemmas.Result.{err_from_is_err_and}
use Rattle.dim_inquiry.specs.declared.report.Report.{Report}
use Rattle.dim_words.specs.Commands.{check_words}
use Rattle.dim_inquiry.specs.Course.{Stops, Runs}
use Rattle.dim_inquiry.specs.Judging.{judged_course, given_of}
use Rattle.dim_inquiry.specs.Why.{why_course, explained}
use Rattle.dim_inquiry.proofs.ReportedLemmas.{at_judging, at_building, at_report}
use Rattle.dim_inquiry.proofs.why.why.Goals as goal

pub returns-in_err-given-clause-runs : goal.returns-in_err-given-clause-runs
returns-in_err-given-clause-runs g c =
    λ files told.
    let p = err_from_is_err_and c.from_residual.result c.from_residual.ensures.1 in
    let w = check_words c.args.command.now in
    let stopped : Stops (judged_course files w) files p.0 (g.F.Files.told c.judged.new.files) = rw p.2 (c.in_err-given.ensures.runs files told) in
    rw p.1 (at_judging explained files w p.0 _ stopped)

pub returns-in_err-explained-clause-runs : goal.returns-in_err-explained-clause-runs
returns-in_err-explained-clause-runs g c =
    λ files told.
    let p = err_from_is_err_and c.from_residual-in_err-explained.result c.from_residual-in_err-explained.ensures.1 in
    let w = check_words c.args.command.now in
    let judged = c.in_ok-given.ensures.runs files told in
    rw (p.1, p.2) (at_building explained files w (given_of c.in_ok-given.given) _ judged.0 judged.1)

pub returns-clause-runs : goal.returns-clause-runs
returns-clause-runs g c =
    λ files told.
    let w = check_words c.args.command.now in
    let judged = c.in_ok-given.ensures.runs files told in
    subst (λ r. Runs (λ (x : Report). x) (why_course files w) files (Ok r) (g.F.Files.told c.judged.new.files)) (sym c.in_ok-explained.ensures)
    (at_report explained files w (given_of c.in_ok-given.given) _ judged.0 judged.1)
