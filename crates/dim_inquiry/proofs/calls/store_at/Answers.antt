use Rattle.dim_inquiry.specs.Course.{Stops, stores}
use Rattle.std.proofs.Common.{subst, sym}
use Rattle.dim_inquiry.proofs.CallLemmas.{store-err}
use Rattle.dim_inquiry.proofs.calls.store_at.Goals as goal

pub returns-in-Err-clause-runs : goal.returns-in-Err-clause-runs
returns-in-Err-clause-runs g c =
    λ before is.
    subst (λ stop. Stops (stores c.args.place c.args.name.now c.args.bytes.now) before stop (g.F.Files.told c.store.new.self)) (sym c.stop_of_store.ensures)
    (store-err (g.F.Files.told c.args.files.now) (g.F.Files.told c.store.new.self) c.args.place c.args.name.now c.args.bytes.now c.in-Err.e c.in-Err.ensures.stored before is)
