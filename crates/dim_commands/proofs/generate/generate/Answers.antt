use Rattle.std.proofs.Common.{◌≡◌, Some, Ok, ap, sym, ◌∙◌, subst}
use Rattle.std.proofs.lemmas.Result.{err_from_is_err_and}
use Rattle.dim_base.specs.Files.{with_file}
use Rattle.dim_inquiry.specs.declared.report.Report.{Report}
use Rattle.dim_inquiry.specs.declared.stop.Place.TheVariants.{Program}
use Rattle.dim_inquiry.specs.Course.{Stops, Runs, stores}
use Rattle.dim_commands.specs.Generate.{generate_course}
use Rattle.dim_generate.specs.Generated.{generated_text}
use Rattle.dim_commands.proofs.GenerateLemmas.{text_is, at_making, at_storing, at_end}
use Rattle.dim_commands.proofs.generate.generate.Goals as goal

pub generated_report-requires : goal.generated_report-requires
generated_report-requires g c = text_is c.args.n c.in_ok-text.text c.in_ok-text.ensures.text

pub returns-in_err-text-clause-runs : goal.returns-in_err-text-clause-runs
returns-in_err-text-clause-runs g c =
    λ files told.
    let p = err_from_is_err_and c.from_residual.result c.from_residual.ensures.1 in
    rw (p.1, p.2) (at_making files c.args.n c.args.program.now _ told)

pub returns-in_err-report-clause-runs : goal.returns-in_err-report-clause-runs
returns-in_err-report-clause-runs g c =
    λ files told.
    let p = err_from_is_err_and c.from_residual-in_err-report.result c.from_residual-in_err-report.ensures.1 in
    rw (p.1, p.2) (at_making files c.args.n c.args.program.now _ told)

pub returns-in_err-store_at-clause-runs : goal.returns-in_err-store_at-clause-runs
returns-in_err-store_at-clause-runs g c =
    λ files told.
    let p = err_from_is_err_and c.from_residual-in_err-store_at.result c.from_residual-in_err-store_at.ensures.1 in
    let name = c.args.program.now in
    let text : c.as_slice.result.now ≡ generated_text c.args.n = c.as_slice.ensures ∙ text_is c.args.n c.in_ok-text.text c.in_ok-text.ensures.text in
    let stopped : Stops (stores Program name c.as_slice.result.now) files p.0 (g.F.Files.told c.store_at.new.files) = rw p.2 (c.in_err-store_at.ensures.runs files told) in
    rw p.1 (at_storing files c.args.n name p.0 _ (subst (λ t. Stops (stores Program name t) files p.0 (g.F.Files.told c.store_at.new.files)) text stopped))

pub returns-clause-runs : goal.returns-clause-runs
returns-clause-runs g c =
    λ files told.
    let name = c.args.program.now in
    let text : c.as_slice.result.now ≡ generated_text c.args.n = c.as_slice.ensures ∙ text_is c.args.n c.in_ok-text.text c.in_ok-text.ensures.text in
    let stored = (c.in_ok-store_at.ensures.runs files told).1 ∙ ap (λ t. Some (with_file files name (Some t))) text in
    subst (λ r. Runs (λ (r : Report). r) (generate_course c.args.n name) files (Ok r) (g.F.Files.told c.store_at.new.files)) (sym c.in_ok-report.ensures) (at_end files c.args.n name _ stored)
