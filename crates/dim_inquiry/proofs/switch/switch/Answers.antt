use Rattle.std.proofs.Common.{◌≡◌, Some, Ok, sym, ap, ◌∙◌, subst}
use Rattle.std.proofs.lemmas.Result.{err_from_is_err_and}
use Rattle.dim_base.specs.Files.{with_file}
use Rattle.dim_history_file.specs.Seen.{value_of}
use Rattle.dim_history_file.specs.Spelling.{history_text}
use Rattle.dim_words.specs.Commands.{switch_words}
use Rattle.dim_inquiry.specs.declared.report.Report.{Report}
use Rattle.dim_inquiry.specs.declared.stop.Place.TheVariants.{NewHistory}
use Rattle.dim_inquiry.specs.Course.{Stops, Runs, after_calls, stores}
use Rattle.dim_inquiry.specs.Taking.{fetches_history}
use Rattle.dim_inquiry.specs.Switch.{switches, switch_course}
use Rattle.dim_inquiry.proofs.CourseLemmas.{unchanged}
use Rattle.dim_inquiry.proofs.SwitchLemmas.{IsFetched, at_fetch, at_switching, at_building, at_storing, at_end, stays}
use Rattle.dim_inquiry.proofs.switch.switch.Goals as goal

pub returns-in_err-bytes-clause-runs : goal.returns-in_err-bytes-clause-runs
returns-in_err-bytes-clause-runs g c =
    λ files told.
    let p = err_from_is_err_and c.from_residual.result c.from_residual.ensures.1 in
    let w = switch_words c.args.command.now in
    let stopped : Stops (fetches_history files w.history) files p.0 (g.F.Files.told c.fetch_history.new.files) = rw p.2 (c.in_err-bytes.ensures.runs files told) in
    rw p.1 (at_fetch files w p.0 _ stopped)

pub returns-in_err-history-clause-runs : goal.returns-in_err-history-clause-runs
returns-in_err-history-clause-runs g c =
    λ files told.
    let p = err_from_is_err_and c.from_residual-in_err-history.result c.from_residual-in_err-history.ensures.1 in
    let w = switch_words c.args.command.now in
    let bytes = c.in_ok-bytes.bytes in
    let got = c.in_ok-bytes.ensures.runs files told in
    let kept : g.F.Files.told c.fetch_history.new.files ≡ Some files = c.in_ok-bytes.ensures.kept ∙ told in
    let fetched : IsFetched files w bytes = record { got = got.0; kept = unchanged files (after_calls (fetches_history files w.history).calls files) _ kept got.1 } in
    let stopped : Stops (switches w bytes) files p.0 (Some files) = rw p.2 (c.in_err-history.ensures.runs files) in
    rw p.1 (at_switching files w bytes p.0 _ fetched (subst (Stops (switches w bytes) files p.0) (sym kept) stopped))

pub returns-in_err-report-clause-runs : goal.returns-in_err-report-clause-runs
returns-in_err-report-clause-runs g c =
    λ files told.
    let p = err_from_is_err_and c.from_residual-in_err-report.result c.from_residual-in_err-report.ensures.1 in
    let w = switch_words c.args.command.now in
    let bytes = c.in_ok-bytes.bytes in
    let got = c.in_ok-bytes.ensures.runs files told in
    let kept : g.F.Files.told c.fetch_history.new.files ≡ Some files = c.in_ok-bytes.ensures.kept ∙ told in
    let fetched : IsFetched files w bytes = record { got = got.0; kept = unchanged files (after_calls (fetches_history files w.history).calls files) _ kept got.1 } in
    let read = c.in_ok-history.ensures.runs files in
    rw (p.1, p.2) (at_building files w bytes (value_of c.in_ok-history.history) _ fetched read.0 (stays files _ read.1) kept)

pub returns-in_err-text-clause-runs : goal.returns-in_err-text-clause-runs
returns-in_err-text-clause-runs g c =
    λ files told.
    let p = err_from_is_err_and c.from_residual-in_err-text.result c.from_residual-in_err-text.ensures.1 in
    let w = switch_words c.args.command.now in
    let bytes = c.in_ok-bytes.bytes in
    let got = c.in_ok-bytes.ensures.runs files told in
    let kept : g.F.Files.told c.fetch_history.new.files ≡ Some files = c.in_ok-bytes.ensures.kept ∙ told in
    let fetched : IsFetched files w bytes = record { got = got.0; kept = unchanged files (after_calls (fetches_history files w.history).calls files) _ kept got.1 } in
    let read = c.in_ok-history.ensures.runs files in
    rw (p.1, p.2) (at_building files w bytes (value_of c.in_ok-history.history) _ fetched read.0 (stays files _ read.1) kept)

pub returns-in_err-store_at-clause-runs : goal.returns-in_err-store_at-clause-runs
returns-in_err-store_at-clause-runs g c =
    λ files told.
    let p = err_from_is_err_and c.from_residual-in_err-store_at.result c.from_residual-in_err-store_at.ensures.1 in
    let w = switch_words c.args.command.now in
    let bytes = c.in_ok-bytes.bytes in
    let sigs = value_of c.in_ok-history.history in
    let got = c.in_ok-bytes.ensures.runs files told in
    let kept : g.F.Files.told c.fetch_history.new.files ≡ Some files = c.in_ok-bytes.ensures.kept ∙ told in
    let fetched : IsFetched files w bytes = record { got = got.0; kept = unchanged files (after_calls (fetches_history files w.history).calls files) _ kept got.1 } in
    let read = c.in_ok-history.ensures.runs files in
    let text : c.as_slice-new_history.result.now ≡ history_text sigs = c.as_slice-new_history.ensures ∙ c.in_ok-text.ensures.text in
    let stopped : Stops (stores NewHistory w.new_history c.as_slice-new_history.result.now) files p.0 (g.F.Files.told c.store_at.new.files) = rw p.2 (c.in_err-store_at.ensures.runs files kept) in
    rw p.1 (at_storing files w bytes sigs p.0 _ fetched read.0 (stays files _ read.1) (subst (λ t. Stops (stores NewHistory w.new_history t) files p.0 (g.F.Files.told c.store_at.new.files)) text stopped))

pub returns-clause-runs : goal.returns-clause-runs
returns-clause-runs g c =
    λ files told.
    let w = switch_words c.args.command.now in
    let bytes = c.in_ok-bytes.bytes in
    let sigs = value_of c.in_ok-history.history in
    let got = c.in_ok-bytes.ensures.runs files told in
    let kept : g.F.Files.told c.fetch_history.new.files ≡ Some files = c.in_ok-bytes.ensures.kept ∙ told in
    let fetched : IsFetched files w bytes = record { got = got.0; kept = unchanged files (after_calls (fetches_history files w.history).calls files) _ kept got.1 } in
    let read = c.in_ok-history.ensures.runs files in
    let text : c.as_slice-new_history.result.now ≡ history_text sigs = c.as_slice-new_history.ensures ∙ c.in_ok-text.ensures.text in
    let stored = (c.in_ok-store_at.ensures.runs files kept).1 ∙ ap (λ t. Some (with_file files w.new_history (Some t))) text in
    subst (λ r. Runs (λ (x : Report). x) (switch_course files w) files (Ok r) (g.F.Files.told c.store_at.new.files)) (sym c.in_ok-report.ensures)
    (at_end files w bytes sigs _ fetched read.0 (stays files _ read.1) stored)
