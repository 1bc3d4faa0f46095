-- The count of the calls of an object in memory.
use Rattle.std.specs.Prelude.{ℕ, ◌+◌, ◌-◌, ◌^◌, min}

-- the number of the call that comes after so many, which stands still at the end of its type
abbrev pub next_call : ℕ → ℕ
next_call made = min (made + 1) (2 ^ 32 - 1)
