-- The first position at which a test fails.
use Rattle.std.specs.Prelude.{◌≡◌, ℕ, zero, suc, ◌<◌, Bool, true, false, if◌then◌else◌, Option, Some, None}
use Rattle.std.specs.Option.{option_or}

-- the first of the positions below k at which a test fails
abbrev pub first_failing : (ℕ → Bool) → ℕ → Option ℕ
first_failing test zero = None
first_failing test (suc k) = option_or (first_failing test k) (if test k then None else Some k)

-- what it is, by positions: the test fails there, and at none before; none where it fails at no
-- position below k
abbrev pub IsFirstFailing : (ℕ → Bool) → ℕ → Option ℕ → Type 0
IsFirstFailing test k None = (i : ℕ) → i < k → test i ≡ true
IsFirstFailing test k (Some i) = (i < k) × (test i ≡ false) × ((j : ℕ) → j < i → test j ≡ true)

abbrev pub FirstFailingLaw : Type 0
FirstFailingLaw = (test : ℕ → Bool) (k : ℕ) → IsFirstFailing test k (first_failing test k)
