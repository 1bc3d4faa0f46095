-- One word taken from a generator.
use Rattle.std.proofs.Common.{◌≡◌, ℕ, ap}
use Rattle.rand_pcg.specs.Lcg.{Lcg}
use Rattle.rand_pcg.specs.Pcg.{pcg32}
use Rattle.dim_schedule.specs.Drawn.{word, after}

pub word_is : (g : Lcg) (n : ℕ) (g' : Lcg) → (n, g') ≡ pcg32 g → n ≡ word g
unfolding word
word_is g n g' e = ap (λ (p : ℕ × Lcg). p.0) e

pub left_is : (g : Lcg) (n : ℕ) (g' : Lcg) → (n, g') ≡ pcg32 g → g' ≡ after 1 g
unfolding after
left_is g n g' e = ap (λ (p : ℕ × Lcg). p.1) e
