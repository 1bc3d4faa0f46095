-- What is drawn of births, one by one.
use Rattle.std.proofs.Common.{◌≡◌, ℕ, ◌+◌, ap, sym, ◌∙◌, List, [], ◌∷◌, ◌++◌, take}
use Rattle.std.specs.Prelude.{Some, slice_get}
use Rattle.std.specs.List.{flat_map}
use Rattle.std.proofs.lemmas.List.{take_more, flat_map_more}
use Rattle.std.proofs.lemmas.Option.{slice_get_within, get_or_from_slice_get}

pub one_more : (f : ℕ → List ℕ) (text bs : List ℕ) (i b : ℕ) → slice_get bs i ≡ Some b → (text ++ flat_map f (take i bs)) ++ f b ≡ text ++ flat_map f (take (i + 1) bs)
one_more f text bs i b here =
    let low = slice_get_within bs i b here in
    let more : take (i + 1) bs ≡ take i bs ++ b ∷ [] = take_more bs i b low ∙ ap (λ (x : ℕ). take i bs ++ x ∷ []) (get_or_from_slice_get bs i b b here) in
    flat_map_more f text (take i bs) b ∙ ap (λ (xs : List ℕ). text ++ flat_map f xs) (sym more)
