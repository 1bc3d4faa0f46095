-- Passes that are put into the seats one by one, and what lay there.
use Rattle.std.proofs.Common.{◌≡◌, ◌+◌, ◌<◌, ℕ, List, [], ◌∷◌, ◌++◌, length, map, take, drop, set, get_or, arith, refl, sym, ap, ap₂, ◌∙◌}
use Rattle.std.specs.Prelude.{reverse}
use Rattle.std.proofs.lemmas.List.{length-map, map-append, reverse-append, reverse-reverse, get_or-map, drop_more, drop-set-lt, take_more, take_more_set, map-set}

-- what is alike from a place on is alike there, and behind it
same_at : {A : Type 0} (xs ws : List A) (i : ℕ) (d : A) → i < length xs → i < length ws → drop i xs ≡ drop i ws → (get_or xs i d ≡ get_or ws i d) × (drop (i + 1) xs ≡ drop (i + 1) ws)
same_at xs ws i d low low' left =
    let both : get_or xs i d ∷ drop (i + 1) xs ≡ get_or ws i d ∷ drop (i + 1) ws = sym (drop_more xs i d low) ∙ left ∙ drop_more ws i d low' in
    let head : get_or xs i d ≡ get_or ws i d = cc (both) in
    let tail : drop (i + 1) xs ≡ drop (i + 1) ws = cc (both) in (head, tail)

-- one element more is that of another list
one_put : {A : Type 0} (xs zs ws : List A) (i : ℕ) (y d : A) → i < length xs → i < length zs → i < length ws → take i xs ≡ take i zs → drop i xs ≡ drop i ws → y ≡ get_or zs i d
    → (take (i + 1) (set xs i y) ≡ take (i + 1) zs) × (drop (i + 1) (set xs i y) ≡ drop (i + 1) ws)
one_put xs zs ws i y d low low' low'' done left is = (
  take_more_set xs i y low ∙ ap₂ (λ ys z. ys ++ z ∷ []) done is ∙ sym (take_more zs i d low'),
  drop-set-lt (i + 1) xs i y (omega arith) ∙ (same_at xs ws i d low low'' left).1,
)

module _ {S P : Type 0} (pass : S → P) (seats seats' : List S) (passes passes' : List P) (i : ℕ) (s : S) (d : S) (e : P) (long : length seats' ≡ length seats) (each : length passes' ≡ length seats) (each_old : length passes ≡ length seats)
    (low : i < length seats) (left : drop i (map pass seats') ≡ drop i (map pass seats)) (behind : drop i passes' ≡ drop i passes) where
  -- the pass goes into the seat
  pub goes_in : take i (map pass seats') ≡ take i passes → pass s ≡ get_or passes' i e → (take (i + 1) (map pass (set seats' i s)) ≡ take (i + 1) passes) × (drop (i + 1) (map pass (set seats' i s)) ≡ drop (i + 1) (map pass seats))
  goes_in done is =
      let k =
      one_put (map pass seats') passes (map pass seats) i (pass s) e (omega (arith, low, long, length-map seats' pass)) (omega (arith, low, each_old)) (omega (arith, low, length-map seats pass)) done left
      (is ∙ (same_at passes' passes i e (omega (arith, low, each)) (omega (arith, low, each_old)) behind).0) in
      (ap (take (i + 1)) (map-set pass seats' i s) ∙ k.0, ap (drop (i + 1)) (map-set pass seats' i s) ∙ k.1)

  -- and what lay there comes out
  pub comes_out : (p : P) → take i passes' ≡ take i (map pass seats) → p ≡ pass (get_or seats' i d) → (take (i + 1) (set passes' i p) ≡ take (i + 1) (map pass seats)) × (drop (i + 1) (set passes' i p) ≡ drop (i + 1) passes)
  comes_out p done is =
      one_put passes' (map pass seats) passes i p (pass d) (omega (arith, low, each)) (omega (arith, low, length-map seats pass)) (omega (arith, low, each_old)) done behind
      (is ∙ sym (get_or-map pass seats' i d (pass d) (omega (arith, low, long))) ∙ (same_at (map pass seats') (map pass seats) i (pass d) (omega (arith, low, long, length-map seats' pass)) (omega (arith, low, length-map seats pass)) left).0)

pub map_reverse : {A B : Type 0} (f : A → B) (xs : List A) → map f (reverse xs) ≡ reverse (map f xs)
map_reverse f [] = refl
map_reverse f (x ∷ xs) =
    ap (map f) (reverse-append (x ∷ []) xs) ∙ map-append f (reverse xs) (x ∷ []) ∙ ap (λ ys. ys ++ f x ∷ []) (map_reverse f xs) ∙ sym (reverse-append (f x ∷ []) (map f xs))

-- Seats whose passes were exchanged for those of a list that was turned round, and then the list is
-- turned round again.
module _ {S P M : Type 0} (machine : S → M) (pass : S → P) (seats seats' : List S) (passes turned back : List P) where
  pub same_machines : map machine seats' ≡ map machine seats → map machine (reverse seats') ≡ map machine (reverse seats)
  same_machines e = map_reverse machine seats' ∙ ap reverse e ∙ sym (map_reverse machine seats)

  pub passes_in_order : turned ≡ reverse passes → map pass seats' ≡ turned → map pass (reverse seats') ≡ passes
  passes_in_order t e = map_reverse pass seats' ∙ ap reverse (e ∙ t) ∙ reverse-reverse passes

  pub back_in_order : back ≡ map pass seats → reverse back ≡ map pass (reverse seats)
  back_in_order e = ap reverse e ∙ sym (map_reverse pass seats)
