-- Whether a test passes at some place of a list, as a loop over its positions finds out.
use Rattle.std.proofs.Common.{◌≡◌, ℕ, ◌+◌, ◌<◌, ◌≤◌, Bool, true, false, ◌||◌, ap, ◌∙◌, arith, List, length, take, get_or}
use Rattle.std.specs.Prelude.{Some, slice_get}
use Rattle.std.specs.List.{list_any}
use Rattle.std.proofs.lemmas.List.{get_or-take, length-take-le}
use Rattle.std.proofs.lemmas.List.Folds.{list_any_more, list_any_at}
use Rattle.std.proofs.lemmas.Option.{get_or_from_slice_get, slice_get_within}

module _ (p : ℕ → Bool) (xs : List ℕ) (j x : ℕ) (read : slice_get xs j ≡ Some x) where
  is_read : get_or xs j 0 ≡ x
  is_read = get_or_from_slice_get xs j x 0 read

  -- one more place at which it does not pass
  pub more : p x ≡ false → list_any p (take j xs) ≡ false → list_any p (take (j + 1) xs) ≡ false
  more q none =
      list_any_more p xs j 0 (slice_get_within xs j x read)
      ∙ ap (λ b. b || p (get_or xs j 0)) none ∙ ap p is_read ∙ q

  -- a place at which it passes
  pub met : p x ≡ true → list_any p xs ≡ true
  met q = list_any_at p xs j 0 (slice_get_within xs j x read) (ap p is_read ∙ q)

  -- one of the first i places
  pub met_below : (i : ℕ) → j < i → i ≤ length xs → p x ≡ true → list_any p (take i xs) ≡ true
  met_below i l w q =
      list_any_at p (take i xs) j 0 (let k : length (take i xs) ≡ i = length-take-le i xs w in omega (arith, k, l))
      (ap p (get_or-take i xs j 0 l ∙ is_read) ∙ q)
