-- A Learn doesn't change the greatest stuck set.
use Rattle.std.proofs.Common.{◌≡◌, ℕ, zero, suc, ◌-◌, ◌^◌, refl, ap, ◌∙◌, List, ◌∷◌}
use Rattle.std.specs.Prelude.{is_some, if◌then◌else◌}
use Rattle.dim_rag.specs.declared.entry.Entry.{Entry}
use Rattle.dim_rag.specs.declared.entry.Entry.TheVariants.{Learn}
use Rattle.dim_rag.specs.Stuck.{stale}
use Rattle.dim_rag.proofs.Exports.{stale_same}
use Rattle.dim_run.specs.Settle.{stuck_up_to, greatest_stuck}

module _ (b : List ℕ) (h : List Entry) (n m : ℕ) where
  up_to_same : (k : ℕ) → stuck_up_to n m (Learn b ∷ h) k ≡ stuck_up_to n m h k
  up_to_same zero = refl
  up_to_same (suc k) =
      ap (λ o. if is_some o then stuck_up_to n m (Learn b ∷ h) k else suc k) (stale_same b h n m (suc k))
      ∙ ap (λ x. if is_some (stale n m h (suc k)) then x else suc k) (up_to_same k)

  pub greatest_same : greatest_stuck n m (Learn b ∷ h) ≡ greatest_stuck n m h
  unfolding greatest_stuck
  greatest_same = up_to_same (2 ^ 32 - 1)
