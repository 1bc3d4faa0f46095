-- The machines at the start, one by one.
use Rattle.std.proofs.Common.{◌≡◌, ℕ, zero, suc, ◌<◌, refl, ap, sym, ◌∙◌, inl, inr, [], ◌∷◌, ◌++◌, length, get_or, arith}
use Rattle.std.proofs.lemmas.Bool.{cases_lt}
use Rattle.std.proofs.Math.Seq.{get_or-append_seam}
use Rattle.std.proofs.lemmas.List.{get_or_append_left, length-append}
use Rattle.dim_asm.specs.Code.{Code}
use Rattle.dim_vm.specs.Configuration.{Configuration, start}
use Rattle.dim_execution.specs.Start.{starts}

module _ (p : Code) (fuel : ℕ) where
  pub starts_count : (n : ℕ) → length (starts p fuel n) ≡ n
  starts_count zero = refl
  starts_count (suc n) = length-append (starts p fuel n) (start p (record { 0 = n }) fuel ∷ []) ∙ omega (arith, starts_count n)

  pub starts_each : (n t : ℕ) (d : Configuration) → t < n → get_or (starts p fuel n) t d ≡ start p (record { 0 = t }) fuel
  starts_each zero t d lt = absurd (omega (arith, lt))
  starts_each (suc n) t d lt =
      let before = starts p fuel n in
      let last = start p (record { 0 = n }) fuel in
      elim (cases_lt t n) [
        | inl less ↦ get_or_append_left before (last ∷ []) d t (omega (arith, less, starts_count n)) ∙ starts_each n t d less
        | inr le ↦
            let same : t ≡ n = omega (arith, lt, le) in
            ap (λ x. get_or (before ++ last ∷ []) x d) (same ∙ sym (starts_count n)) ∙ get_or-append_seam before last [] d ∙ ap (λ x. start p (record { 0 = x }) fuel) (sym same)
      ]
