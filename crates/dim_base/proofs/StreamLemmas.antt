use Rattle.std.proofs.Common.{rules, arith, ◌≡◌, ℕ, ◌≤◌, ◌<◌, List, [], ◌++◌, length, take, nat_lt, false, Option, Some, None, Ok, IfSome, ap, sym, ◌∙◌, subst}
use Rattle.std.specs.Option.{option_map}
use Rattle.std.proofs.lemmas.List.{take_all, length-take}
use Rattle.dim_base.specs.Files.{fetched}

-- where fewer than n bytes were taken of those left, these are all
all_taken : (n : ℕ) (left bytes : List ℕ) → bytes ≡ take n left → length bytes < n → bytes ≡ left
all_taken n left bytes is few =
    let short : length left ≤ n = let e = sym (length-take n left) ∙ ap length (sym is) in omega arith in
    is ∙ take_all n left short

-- a reader that gave no more than the limit gave what a fetch answers
pub whole : (o : Option (List ℕ)) (limit n : ℕ) (bytes : List ℕ) → IfSome (option_map (take n) o) (λ xs. bytes ≡ [] ++ xs) → length bytes ≤ limit → length bytes < n → IfSome o (λ left. fetched (Some left) limit ≡ Ok bytes)
whole None limit n bytes gives low few = gives
whole (Some left) limit n bytes gives low few =
    let same : bytes ≡ left = all_taken n left bytes gives few in
    let fits : nat_lt limit (length left) ≡ false = subst (λ xs. nat_lt limit (length xs) ≡ false) same (search rules) in
    rw fits (ap Ok (sym same))
