-- What a command puts at its end, and the statuses.
use Rattle.std.specs.Prelude.{◌≡◌, ℕ, suc, ◌==◌, true, List, [], ◌∷◌, ◌++◌}
use Rattle.std.specs.List.{list_any}
use Rattle.dim_inquiry.specs.declared.report.Ending.{Ending}
use Rattle.dim_inquiry.specs.declared.report.Ending.TheVariants as endings

-- the status that goes with a report
abbrev pub status_of : Ending → ℕ
status_of endings.Done = 0
status_of endings.Deadlocked = 3
status_of endings.Stalled = 4

-- the statuses that there are
abbrev pub IsStatus : ℕ → Type 0
IsStatus status = list_any (λ n. n == status) (0 ∷ 2 ∷ 3 ∷ 4 ∷ 5 ∷ 6 ∷ 7 ∷ 8 ∷ 9 ∷ 10 ∷ 11 ∷ 12 ∷ 13 ∷ 14 ∷ 15 ∷ 16 ∷ []) ≡ true

-- the texts of some values from the number i on, each by its number
unfoldable pub by_number : {X : Type 0} → (ℕ → X → List ℕ) → ℕ → List X → List ℕ
by_number text i [] = []
by_number text i (x ∷ xs) = text i x ++ by_number text (suc i) xs
