-- How a list lies in an array of a fixed size.
use Rattle.std.specs.Prelude.{◌≡◌, ℕ, ◌-◌, ◌≤◌, List, ◌++◌, length, take, drop, replicate}
use Rattle.std.proofs.Common.{ap, sym, ◌∙◌, arith, take-append-drop, length-take-le}

-- of so many places the first len have items, and the others a blank
pub record IsFilled {A : Type 0} (most : ℕ) (blank : A) (len : ℕ) (items : List A) : Type 0 where
  pub few : len ≤ most
  pub size : length items ≡ most
  pub rest : drop len items ≡ replicate (most - len) blank

-- the length of what is seen is the length that is kept
pub len_back : {A : Type 0} (most : ℕ) (blank : A) (len : ℕ) (items : List A)
    → IsFilled most blank len items → length (take len items) ≡ len
len_back most blank len items h = length-take-le len items (omega (arith, h.few, h.size))

-- what is seen, filled up, is what is kept
pub filled_back : {A : Type 0} (most : ℕ) (blank : A) (len : ℕ) (items : List A)
    → IsFilled most blank len items
    → take len items ++ replicate (most - length (take len items)) blank ≡ items
filled_back most blank len items h =
    ap (λ n. take len items ++ replicate (most - n) blank) (len_back most blank len items h)
    ∙ ap (λ r. take len items ++ r) (sym h.rest)
    ∙ take-append-drop len items
