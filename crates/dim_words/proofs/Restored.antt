-- The names that were found are the names of the words.
use Rattle.std.proofs.Common.{◌≡◌, ◌≤◌, ◌++◌, List, [], ◌∷◌, refl, arith, length, slice_get}
use Rattle.clap.specs.Words.{Text}
use Rattle.dim_words.specs.Found.{one_more}

pub restored : (names : List Text) → length names ≤ 4
    → ((one_more (slice_get names 0) ++ one_more (slice_get names 1)) ++ one_more (slice_get names 2)) ++ one_more (slice_get names 3) ≡ names
restored [] few = refl
restored (a ∷ []) few = refl
restored (a ∷ b ∷ []) few = refl
restored (a ∷ b ∷ c ∷ []) few = refl
restored (a ∷ b ∷ c ∷ d ∷ []) few = refl
restored (a ∷ b ∷ c ∷ d ∷ e ∷ more) few = absurd (omega (arith, few))
