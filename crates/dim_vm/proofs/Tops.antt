-- The newest of the first n elements comes first in their reverse.
use Rattle.std.proofs.Common.{◌≡◌, ℕ, ◌+◌, ◌-◌, ◌≤◌, List, [], ◌∷◌, length, take, set, get_or, reverse, ap, sym, ◌∙◌, arith, length-take-le}
use Rattle.dim_vm.specs.Tops.{rest}
use Rattle.std.proofs.lemmas.List.{take_more, take_more_set, reverse-append, length-reverse}

module _ {X : Type 0} (xs : List X) (n : ℕ) (some : 1 ≤ n) (few : n ≤ length xs) where
  before : n - 1 + 1 ≡ n
  before = omega arith

  pub top_is : (d : X) → reverse (take n xs) ≡ get_or xs (n - 1) d ∷ reverse (take (n - 1) xs)
  top_is d =
      ap (λ m. reverse (take m xs)) (sym before)
      ∙ ap reverse (take_more xs (n - 1) d (omega arith))
      ∙ reverse-append (take (n - 1) xs) (get_or xs (n - 1) d ∷ [])

  pub top_set : (x : X) → reverse (take n (set xs (n - 1) x)) ≡ x ∷ reverse (take (n - 1) xs)
  top_set x =
      ap (λ m. reverse (take m (set xs (n - 1) x))) (sym before)
      ∙ ap reverse (take_more_set xs (n - 1) x (omega arith))
      ∙ reverse-append (take (n - 1) xs) (x ∷ [])

pub length_seen : {X : Type 0} (xs : List X) (n : ℕ) → n ≤ length xs → length (reverse (take n xs)) ≡ n
length_seen xs n few = length-reverse (take n xs) ∙ length-take-le n xs few

-- without the two newest
pub rest_two : {X : Type 0} (xs : List X) (n : ℕ) (seen : List X) (d : X) → reverse (take n xs) ≡ seen → 2 ≤ n → n ≤ length xs → reverse (take (n - 2) xs) ≡ rest (rest seen)
rest_two xs n seen d view two few =
    let less : n - 1 - 1 ≡ n - 2 = omega arith in
    ap (λ m. reverse (take m xs)) (sym less)
    ∙ sym (ap rest (top_is xs (n - 1) (omega arith) (omega arith) d))
    ∙ ap (λ r. rest (rest r)) (sym (top_is xs n (omega arith) few d) ∙ view)
