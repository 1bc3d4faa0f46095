use Rattle.std.proofs.Common.{◌≡◌, ℕ, ◌-◌, ◌/◌, ◌^◌, ap, ◌∙◌, arith}
use Rattle.std.specs.Int.{bit_at}
use Rattle.std.proofs.lemmas.Bool.{eq-eqb}
use Rattle.std.proofs.lemmas.Nat.Bits.{bit_at_ones, ones_shr}
use Rattle.dim_monitor.proofs.stuck.everyone.Goals as goal

pub returns-else-threads-eq0 : goal.returns-else-threads-eq0
returns-else-threads-eq0 c = λ t low.
    let n : ℕ = c.threads-threads.result in
    let same : 4294967295 / 2 ^ (32 - n) ≡ 2 ^ (32 - (32 - n)) - 1 = ones_shr 32 (32 - n) (omega arith) in
    eq-eqb (bit_at (4294967295 / 2 ^ (32 - n)) t) 1
    (ap (λ (m : ℕ). bit_at m t) same ∙ bit_at_ones (32 - (32 - n)) t (omega (arith, low, c.threads-threads.ensures.threads, c.threads-threads.ensures.few)))
