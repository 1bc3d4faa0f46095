-- How many of some numbers pass a test.
use Rattle.std.proofs.Common.{◌≡◌, ℕ, zero, suc, ◌+◌, ◌<◌, ◌≤◌, Bool, true, false, eqb, refl, ap, ap₂, sym, ◌∙◌, inl, inr, arith}
use Rattle.std.specs.Prelude.{if◌then◌else◌}
use Rattle.std.proofs.lemmas.Bool.{cases_lt, ne_eqb}
use Rattle.dim_mutex.specs.Standing.{held_below}

abbrev one : Bool → ℕ
one b = if b then 1 else 0

pub held_same : (n : ℕ) (f g : ℕ → Bool) → ((i : ℕ) → i < n → g i ≡ f i) → held_below n g ≡ held_below n f
held_same zero f g each = refl
held_same (suc n) f g each = ap₂ (λ (x : ℕ) (b : Bool). x + one b) (held_same n f g (λ i lt. each i (omega (arith, lt)))) (each n (omega arith))

-- where one more of them passes
pub held_more : (n m : ℕ) (f g : ℕ → Bool) → m < n → f m ≡ false → g m ≡ true → ((i : ℕ) → eqb m i ≡ false → g i ≡ f i) → held_below n g ≡ held_below n f + 1
held_more zero m f g lt was is each = absurd (omega (arith, lt))
held_more (suc n) m f g lt was is each = elim (cases_lt m n) [
  | inl less ↦
      let i : held_below n g ≡ held_below n f + 1 = held_more n m f g less was is each in
      let j : one (g n) ≡ one (f n) = ap one (each n (ne_eqb m n (λ q. omega (arith, q, less)))) in
      omega (arith, i, j)
  | inr le ↦
      let same : m ≡ n = omega (arith, lt, le) in
      let i : held_below n g ≡ held_below n f = held_same n f g (λ i below. each i (ne_eqb m i (λ q. omega (arith, q, below, same)))) in
      let a : one (f n) ≡ 0 = ap one (ap f (sym same) ∙ was) in
      let b : one (g n) ≡ 1 = ap one (ap g (sym same) ∙ is) in
      omega (arith, i, a, b)
]

-- where one passes, at least one does
pub held_some : (n m : ℕ) (f : ℕ → Bool) → m < n → f m ≡ true → 1 ≤ held_below n f
held_some zero m f lt is = absurd (omega (arith, lt))
held_some (suc n) m f lt is = elim (cases_lt m n) [
  | inl less ↦ let i = held_some n m f less is in omega (arith, i)
  | inr le ↦
      let same : m ≡ n = omega (arith, lt, le) in
      let a : one (f n) ≡ 1 = ap one (ap f (sym same) ∙ is) in
      omega (arith, a)
]

-- no more pass than there are
pub held_most : (n : ℕ) (f : ℕ → Bool) → held_below n f ≤ n
held_most zero f = omega arith
held_most (suc n) f = let i = held_most n f in let j = one_most (f n) in omega (arith, i, j)
  where
    one_most : (b : Bool) → one b ≤ 1
    one_most true = omega arith
    one_most false = omega arith
