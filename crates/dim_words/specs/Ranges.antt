-- The ranges of the settings that words give.
use Rattle.std.specs.Prelude.{◌≤◌, ℕ, Option, IfSome}
use Rattle.dim_words.specs.declared.kind.Setting.{Setting}
use Rattle.dim_words.specs.declared.kind.Setting.TheVariants.{Fuel, Quantum, Depth, Workers, Attempts}
use Rattle.dim_words.specs.Words.{least_of, most_of}

-- what was given is in the setting's range
abbrev pub IsRanged : Setting → Option ℕ → Type 0
IsRanged s given = IfSome given (λ n. (least_of s ≤ n) × (n ≤ most_of s))

-- a seed may be any number that it can be
pub record AreRanged (fuel quantum depth workers attempts : Option ℕ) : Type 0 where
  pub fuel_is : IsRanged Fuel fuel
  pub quantum_is : IsRanged Quantum quantum
  pub depth_is : IsRanged Depth depth
  pub workers_is : IsRanged Workers workers
  pub attempts_is : IsRanged Attempts attempts
