use Rattle.std.proofs.Common.{◌≡◌, Some, ◌∙◌}
use Rattle.std.proofs.lemmas.Result.{err_from_is_err_and}
use Rattle.dim_inquiry.specs.declared.stop.Place.TheVariants.{Program, Trace}
use Rattle.dim_words.specs.Commands.{check_words}
use Rattle.dim_inquiry.specs.Course.{Stops, after_calls, fetches}
use Rattle.dim_inquiry.specs.Taking.{fetches_history}
use Rattle.dim_inquiry.proofs.CheckLemmas.{at_program, at_history, at_trace, at_texts}
use Rattle.dim_inquiry.proofs.CourseLemmas.{unchanged}
use Rattle.dim_inquiry.proofs.judging.fetch_texts.Goals as goal

pub returns-in_err-program-clause-runs : goal.returns-in_err-program-clause-runs
returns-in_err-program-clause-runs g c =
    λ files told.
    let p = err_from_is_err_and c.from_residual.result c.from_residual.ensures.1 in
    let w = check_words c.args.command.now in
    let stopped : Stops (fetches files Program w.program 4194304) files p.0 (g.F.Files.told c.fetch_at.new.files) = rw p.2 (c.in_err-program.ensures.runs files told) in
    rw p.1 (at_program files w p.0 _ stopped)

pub returns-in_err-history-clause-runs : goal.returns-in_err-history-clause-runs
returns-in_err-history-clause-runs g c =
    λ files told.
    let p = err_from_is_err_and c.from_residual-in_err-history.result c.from_residual-in_err-history.ensures.1 in
    let w = check_words c.args.command.now in
    let got = c.in_ok-program.ensures.runs files told in
    let stopped : Stops (fetches_history files w.history) files p.0 (g.F.Files.told c.fetch_history.new.files) = rw p.2 (c.in_err-history.ensures.runs files got.1) in
    rw p.1 (at_history files w c.in_ok-program.program p.0 _ got.0 stopped)

pub returns-in_err-trace-clause-runs : goal.returns-in_err-trace-clause-runs
returns-in_err-trace-clause-runs g c =
    λ files told.
    let p = err_from_is_err_and c.from_residual-in_err-trace.result c.from_residual-in_err-trace.ensures.1 in
    let w = check_words c.args.command.now in
    let got = c.in_ok-program.ensures.runs files told in
    let history = c.in_ok-history.ensures.runs files got.1 in
    let kept : g.F.Files.told c.fetch_history.new.files ≡ Some files = c.in_ok-history.ensures.kept ∙ got.1 in
    let same : after_calls (fetches_history files w.history).calls files ≡ files = unchanged files (after_calls (fetches_history files w.history).calls files) _ kept history.1 in
    let stopped : Stops (fetches files Trace w.trace 536870912) files p.0 (g.F.Files.told c.fetch_at-2.new.files) = rw p.2 (c.in_err-trace.ensures.runs files kept) in
    rw p.1 (at_trace files w c.in_ok-program.program c.in_ok-history.history p.0 _ got.0 history.0 same stopped)

pub returns-clause-runs : goal.returns-clause-runs
returns-clause-runs g c =
    λ files told.
    let w = check_words c.args.command.now in
    let got = c.in_ok-program.ensures.runs files told in
    let history = c.in_ok-history.ensures.runs files got.1 in
    let kept : g.F.Files.told c.fetch_history.new.files ≡ Some files = c.in_ok-history.ensures.kept ∙ got.1 in
    let same : after_calls (fetches_history files w.history).calls files ≡ files = unchanged files (after_calls (fetches_history files w.history).calls files) _ kept history.1 in
    let trace = c.in_ok-trace.ensures.runs files kept in
    at_texts files w c.in_ok-program.program c.in_ok-history.history c.in_ok-trace.trace _ got.0 history.0 same trace.0 trace.1
