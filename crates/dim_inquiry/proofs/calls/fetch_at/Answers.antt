use Rattle.dim_inquiry.specs.Course.{Stops, fetches}
use Rattle.std.proofs.Common.{subst, sym}
use Rattle.dim_inquiry.proofs.CallLemmas.{fetch-err}
use Rattle.dim_inquiry.proofs.calls.fetch_at.Goals as goal

pub returns-in-Err-clause-runs : goal.returns-in-Err-clause-runs
returns-in-Err-clause-runs g c =
    λ before is.
    subst (λ stop. Stops (fetches before c.args.place c.args.name.now c.args.limit) before stop (g.F.Files.told c.fetch.new.self)) (sym c.stop_of_fetch.ensures)
    (fetch-err (g.F.Files.told c.args.files.now) (g.F.Files.told c.fetch.new.self) c.args.place c.args.name.now c.args.limit c.in-Err.e c.in-Err.ensures.answer c.in-Err.ensures.kept before is)
