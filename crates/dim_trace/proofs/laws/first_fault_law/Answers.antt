use Rattle.std.proofs.Common.{refl}
use Rattle.dim_text.proofs.Exports.{first_fault, first_is_read}
use Rattle.dim_trace.specs.declared.fault.TraceFault.{TraceFault}
use Rattle.dim_trace.specs.Faults.{fault}
use Rattle.dim_trace.specs.Places.{reading}
use Rattle.dim_trace.proofs.laws.first_fault_law.Goals as goal

pub returns-clause-found : goal.returns-clause-found
returns-clause-found c p names bytes f e = first_fault fault (reading p names) bytes f (λ (g : TraceFault). g.line) (λ (g : TraceFault). g.kind) (λ n k. refl) (λ n k. refl) e

pub returns-clause-only : goal.returns-clause-only
returns-clause-only c p names bytes n kind h = first_is_read fault (reading p names) bytes n kind h
