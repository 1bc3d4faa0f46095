use Rattle.std.proofs.Common.{refl}
use Rattle.dim_text.proofs.Exports.{first_fault, first_is_read}
use Rattle.dim_history_file.specs.declared.fault.FileFault.{FileFault}
use Rattle.dim_history_file.specs.Faults.{fault}
use Rattle.dim_history_file.specs.Places.{reading}
use Rattle.dim_history_file.proofs.laws.first_fault_law.Goals as goal

pub returns-clause-found : goal.returns-clause-found
returns-clause-found c bytes f e = first_fault fault reading bytes f (λ (g : FileFault). g.line) (λ (g : FileFault). g.kind) (λ n k. refl) (λ n k. refl) e

pub returns-clause-only : goal.returns-clause-only
returns-clause-only c bytes n kind h = first_is_read fault reading bytes n kind h
