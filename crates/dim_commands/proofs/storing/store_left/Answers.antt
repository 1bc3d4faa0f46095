use Rattle.std.proofs.Common.{◌≡◌, Some, ap, ◌∙◌, subst}
use Rattle.std.proofs.lemmas.Result.{err_from_is_err_and}
use Rattle.dim_base.specs.Files.{with_file}
use Rattle.dim_inquiry.specs.declared.stop.Place.TheVariants.{NewHistory, Trace}
use Rattle.dim_inquiry.specs.Course.{Stops, stores}
use Rattle.dim_commands.specs.Output.{left_of}
use Rattle.dim_commands.proofs.StoreLemmas.{at_history, at_trace, at_report}
use Rattle.dim_commands.proofs.storing.store_left.Goals as goal

pub returns-in_err-store_at-clause-runs : goal.returns-in_err-store_at-clause-runs
returns-in_err-store_at-clause-runs g c =
    λ files told.
    let p = err_from_is_err_and c.from_residual.result c.from_residual.ensures.1 in
    let name = c.args.new_history.now in
    let stopped : Stops (stores NewHistory name c.as_slice-grown.result.now) files p.0 (g.F.Files.told c.store_at.new.files) = rw p.2 (c.in_err-store_at.ensures.runs files told) in
    rw p.1 (at_history files name c.args.trace.now (left_of c.args.output) p.0 _ (subst (λ t. Stops (stores NewHistory name t) files p.0 (g.F.Files.told c.store_at.new.files)) c.as_slice-grown.ensures stopped))

pub returns-in_err-store_at-2-clause-runs : goal.returns-in_err-store_at-2-clause-runs
returns-in_err-store_at-2-clause-runs g c =
    λ files told.
    let p = err_from_is_err_and c.from_residual-in_err-store_at-2.result c.from_residual-in_err-store_at-2.ensures.1 in
    let name = c.args.trace.now in
    let between = with_file files c.args.new_history.now (Some c.args.output.texts.new_history) in
    let stored : g.F.Files.told c.store_at.new.files ≡ Some between = (c.in_ok-store_at.ensures.runs files told).1 ∙ ap (λ t. Some (with_file files c.args.new_history.now (Some t))) c.as_slice-grown.ensures in
    let stopped : Stops (stores Trace name c.as_slice-entries.result.now) between p.0 (g.F.Files.told c.store_at-2.new.files) = rw p.2 (c.in_err-store_at-2.ensures.runs between stored) in
    rw p.1 (at_trace files c.args.new_history.now name (left_of c.args.output) p.0 _ (subst (λ t. Stops (stores Trace name t) between p.0 (g.F.Files.told c.store_at-2.new.files)) c.as_slice-entries.ensures stopped))

pub returns-clause-runs : goal.returns-clause-runs
returns-clause-runs g c =
    λ files told.
    let between = with_file files c.args.new_history.now (Some c.args.output.texts.new_history) in
    let stored : g.F.Files.told c.store_at.new.files ≡ Some between = (c.in_ok-store_at.ensures.runs files told).1 ∙ ap (λ t. Some (with_file files c.args.new_history.now (Some t))) c.as_slice-grown.ensures in
    let last = (c.in_ok-store_at-2.ensures.runs between stored).1 ∙ ap (λ t. Some (with_file between c.args.trace.now (Some t))) c.as_slice-entries.ensures in
    at_report files c.args.new_history.now c.args.trace.now (left_of c.args.output) _ last
