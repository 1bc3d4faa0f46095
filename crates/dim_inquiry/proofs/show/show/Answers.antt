use Rattle.std.proofs.Common.{◌≡◌, Some, Ok, sym, ◌∙◌, subst}
use Rattle.std.proofs.lemmas.Result.{err_from_is_err_and}
use Rattle.dim_history_file.specs.Seen.{value_of}
use Rattle.dim_inquiry.specs.declared.report.Report.{Report}
use Rattle.dim_inquiry.specs.Course.{Stops, Runs, after_calls}
use Rattle.dim_inquiry.specs.Taking.{fetches_history, reads}
use Rattle.dim_inquiry.specs.Show.{show_course}
use Rattle.dim_inquiry.proofs.CourseLemmas.{unchanged}
use Rattle.dim_inquiry.proofs.ShowLemmas.{at_fetch, at_reading, at_report}
use Rattle.dim_inquiry.proofs.show.show.Goals as goal

pub returns-in_err-bytes-clause-runs : goal.returns-in_err-bytes-clause-runs
returns-in_err-bytes-clause-runs g c =
    λ files told.
    let p = err_from_is_err_and c.from_residual.result c.from_residual.ensures.1 in
    let name = c.args.name.now in
    let stopped : Stops (fetches_history files name) files p.0 (g.F.Files.told c.fetch_history.new.files) = rw p.2 (c.in_err-bytes.ensures.runs files told) in
    rw p.1 (at_fetch files name p.0 _ stopped)

pub returns-in_err-history-clause-runs : goal.returns-in_err-history-clause-runs
returns-in_err-history-clause-runs g c =
    λ files told.
    let p = err_from_is_err_and c.from_residual-in_err-history.result c.from_residual-in_err-history.ensures.1 in
    let name = c.args.name.now in
    let bytes = c.in_ok-bytes.bytes in
    let got = c.in_ok-bytes.ensures.runs files told in
    let kept : g.F.Files.told c.fetch_history.new.files ≡ Some files = c.in_ok-bytes.ensures.kept ∙ told in
    let same = unchanged files (after_calls (fetches_history files name).calls files) _ kept got.1 in
    let stopped : Stops (reads bytes) files p.0 (Some files) = rw p.2 (c.in_err-history.ensures.runs files) in
    rw p.1 (at_reading files name bytes p.0 _ got.0 same (subst (Stops (reads bytes) files p.0) (sym kept) stopped))

pub returns-clause-runs : goal.returns-clause-runs
returns-clause-runs g c =
    λ files told.
    let name = c.args.name.now in
    let bytes = c.in_ok-bytes.bytes in
    let got = c.in_ok-bytes.ensures.runs files told in
    let kept : g.F.Files.told c.fetch_history.new.files ≡ Some files = c.in_ok-bytes.ensures.kept ∙ told in
    let same = unchanged files (after_calls (fetches_history files name).calls files) _ kept got.1 in
    subst (λ r. Runs (λ (r : Report). r) (show_course files name) files (Ok r) (g.F.Files.told c.fetch_history.new.files)) (sym c.in_ok-shown.ensures)
    (at_report files name bytes (value_of c.in_ok-history.history) _ got.0 same (c.in_ok-history.ensures.runs files).0 kept)
