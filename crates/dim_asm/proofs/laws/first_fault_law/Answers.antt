use Rattle.std.proofs.Common.{refl, ap, ◌∙◌, Ok}
use Rattle.dim_text.specs.Reading.{◌>>=◌}
use Rattle.dim_text.proofs.Exports.{first_fault, first_is_read}
use Rattle.dim_asm.specs.declared.fault.AsmFault.{AsmFault}
use Rattle.dim_asm.specs.Bound.{bound, own_names}
use Rattle.dim_asm.specs.Faults.{fault}
use Rattle.dim_asm.specs.Linking.{link}
use Rattle.dim_asm.specs.Places.{reading}
use Rattle.dim_asm.proofs.FirstLine.{links}
use Rattle.dim_asm.proofs.laws.first_fault_law.Goals as goal

pub returns-clause-found : goal.returns-clause-found
returns-clause-found c bytes f e = first_fault fault reading bytes f (λ (g : AsmFault). g.line) (λ (g : AsmFault). g.kind) (λ n k. refl) (λ n k. refl) e

pub returns-clause-only : goal.returns-clause-only
returns-clause-only c bytes n kind h = ap (λ r. r >>= λ source. link source >>= λ p. Ok (bound (own_names p) p)) (first_is_read fault reading bytes n kind h)

pub returns-clause-second : goal.returns-clause-second
returns-clause-second c bytes s f e q = ap (λ r. r >>= λ source. link source >>= λ p. Ok (bound (own_names p) p)) e ∙ ap (λ r. r >>= λ p. Ok (bound (own_names p) p)) q

pub returns-clause-links : goal.returns-clause-links
returns-clause-links c s = links s
