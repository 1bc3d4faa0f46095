use Rattle.std.proofs.Common.{refl}
use Rattle.dim_text.proofs.Exports.{first_fault, first_is_read}
use Rattle.dim_log.specs.declared.log.LogFault.{LogFault}
use Rattle.dim_log.specs.Faults.{fault}
use Rattle.dim_log.specs.Places.{reading}
use Rattle.dim_log.proofs.laws.first_fault_law.Goals as goal

pub returns-clause-found : goal.returns-clause-found
returns-clause-found c bytes f e = first_fault fault reading bytes f (λ (g : LogFault). g.line) (λ (g : LogFault). g.kind) (λ n k. refl) (λ n k. refl) e

pub returns-clause-only : goal.returns-clause-only
returns-clause-only c bytes n kind h = first_is_read fault reading bytes n kind h
