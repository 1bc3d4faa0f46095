-- The settings of a run.
use Rattle.std.specs.Prelude.{◌≤◌}
use Rattle.dim_schedule.specs.declared.settings.Settings.{Settings}

-- they are in their ranges
pub record AreSettings (s : Settings) : Type 0 where
  pub some_fuel : 1 ≤ s.fuel
  pub fuel : s.fuel ≤ 8192
  pub some_quantum : 1 ≤ s.quantum
  pub quantum : s.quantum ≤ 1024
  pub some_depth : 1 ≤ s.depth
  pub depth : s.depth ≤ 32
  pub some_workers : 1 ≤ s.workers
  pub workers : s.workers ≤ 16
