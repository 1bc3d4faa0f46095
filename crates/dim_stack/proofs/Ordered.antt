-- What the order of two stacks says, read both ways.
use Rattle.std.proofs.Common.{◌≡◌, ◌↔◌, ◌<◌, refl, ap, ap₂, sym, ◌∙◌, subst, inl, inr, List, [], ◌∷◌, ◌++◌}
use Rattle.std.proofs.lemmas.List.{append-nil}
use Rattle.std.specs.Cmp.{nat_cmp_is}
use Rattle.std.specs.Ordering.{nat_cmp, ordering_then, MatchOrdering}
use Rattle.std.proofs.lemmas.Cmp.{ranked}
use Rattle.std.specs.declared.cmp.Ordering.{Ordering}
use Rattle.std.specs.declared.cmp.Ordering.TheVariants.{Less, Equal, Greater}
use Rattle.std.specs.Cmp.Lexicographic.{slice_cmp}
use Rattle.dim_stack.specs.declared.Frame.{Frame}
use Rattle.dim_stack.specs.Order.{frame_cmp, FrameBefore, StartsBefore, ComesBefore}

-- what an order of two frames says
abbrev FrameRank : Frame → Frame → Ordering → Type 0
FrameRank x y o = MatchOrdering o (FrameBefore x y) (x ≡ y) (FrameBefore y x)

frame_rank : (x y : Frame) → FrameRank x y (frame_cmp x y)
frame_rank x y = go (nat_cmp x.func y.func) (nat_cmp x.at y.at) (ranked x.func y.func _ refl) (ranked x.at y.at _ refl)
  where
    go : (o p : Ordering) → MatchOrdering o (x.func < y.func) (x.func ≡ y.func) (y.func < x.func) → MatchOrdering p (x.at < y.at) (x.at ≡ y.at) (y.at < x.at) → FrameRank x y (ordering_then o p)
    go Less p f a = inl f
    go Greater p f a = inl f
    go Equal Less f a = inr (f, a)
    go Equal Equal f a = λ i. record { func = f i; at = a i }
    go Equal Greater f a = inr (sym f, a)

frame_less : (x y : Frame) → FrameBefore x y → frame_cmp x y ≡ Less
frame_less x y (inl f) = ap (λ o. ordering_then o (nat_cmp x.at y.at)) (sym (nat_cmp_is x.func y.func Less f))
frame_less x y (inr f) = ap₂ ordering_then (sym (nat_cmp_is x.func y.func Equal f.0)) (sym (nat_cmp_is x.at y.at Less f.1))

frame_greater : (x y : Frame) → FrameBefore y x → frame_cmp x y ≡ Greater
frame_greater x y (inl f) = ap (λ o. ordering_then o (nat_cmp x.at y.at)) (sym (nat_cmp_is x.func y.func Greater f))
frame_greater x y (inr f) = ap₂ ordering_then (sym (nat_cmp_is x.func y.func Equal (sym f.0))) (sym (nat_cmp_is x.at y.at Greater f.1))

frame_same : (x : Frame) → frame_cmp x x ≡ Equal
frame_same x = ap₂ ordering_then (sym (nat_cmp_is x.func x.func Equal refl)) (sym (nat_cmp_is x.at x.at Equal refl))

-- one equal frame more in front
more : (x y : Frame) (xs ys : List Frame) → x ≡ y → ComesBefore xs ys → ComesBefore (x ∷ xs) (y ∷ ys)
more x y xs ys e c = record {
  front = x ∷ c.front;
  rest_of_a = c.rest_of_a;
  rest_of_b = c.rest_of_b;
  a_is = ap (λ zs. x ∷ zs) c.a_is;
  b_is = ap (λ z. z ∷ ys) (sym e) ∙ ap (λ zs. x ∷ zs) c.b_is;
  before = c.before;
}

-- the first frames decide
at_once : (xs ys : List Frame) → StartsBefore xs ys → ComesBefore xs ys
at_once xs ys s = record { front = []; rest_of_a = xs; rest_of_b = ys; a_is = refl; b_is = refl; before = s }

-- what an order of two lists says
abbrev Rank : List Frame → List Frame → Ordering → Type 0
Rank a b o = MatchOrdering o (ComesBefore a b) (a ≡ b) (ComesBefore b a)

rank : (a b : List Frame) → Rank a b (slice_cmp frame_cmp a b)
rank [] [] = refl
rank [] (y ∷ ys) = at_once [] (y ∷ ys) tt
rank (x ∷ xs) [] = at_once [] (x ∷ xs) tt
rank (x ∷ xs) (y ∷ ys) = go (frame_cmp x y) (slice_cmp frame_cmp xs ys) (frame_rank x y) (rank xs ys)
  where
    go : (o p : Ordering) → FrameRank x y o → Rank xs ys p → Rank (x ∷ xs) (y ∷ ys) (ordering_then o p)
    go Less p f r = at_once (x ∷ xs) (y ∷ ys) f
    go Greater p f r = at_once (y ∷ ys) (x ∷ xs) f
    go Equal Less f r = more x y xs ys f r
    go Equal Equal f r = ap₂ (λ z zs. z ∷ zs) f r
    go Equal Greater f r = more y x ys xs (sym f) r

-- frames with which both begin do not decide
same_front : (front a b : List Frame) → slice_cmp frame_cmp (front ++ a) (front ++ b) ≡ slice_cmp frame_cmp a b
same_front [] a b = refl
same_front (x ∷ front) a b = ap (λ o. ordering_then o (slice_cmp frame_cmp (front ++ a) (front ++ b))) (frame_same x) ∙ same_front front a b

starts_less : (a b : List Frame) → StartsBefore a b → slice_cmp frame_cmp a b ≡ Less
starts_less [] [] s = absurd s
starts_less [] (y ∷ ys) s = refl
starts_less (x ∷ xs) [] s = absurd s
starts_less (x ∷ xs) (y ∷ ys) s = ap (λ o. ordering_then o (slice_cmp frame_cmp xs ys)) (frame_less x y s)

starts_greater : (a b : List Frame) → StartsBefore b a → slice_cmp frame_cmp a b ≡ Greater
starts_greater [] [] s = absurd s
starts_greater [] (y ∷ ys) s = absurd s
starts_greater (x ∷ xs) [] s = refl
starts_greater (x ∷ xs) (y ∷ ys) s = ap (λ o. ordering_then o (slice_cmp frame_cmp xs ys)) (frame_greater x y s)

module _ (a b : List Frame) (o : Ordering) (e : o ≡ slice_cmp frame_cmp a b) where
  said : (p : Ordering) → o ≡ p → Rank a b p
  said p q = subst (Rank a b) (sym e ∙ q) (rank a b)

  pub less_is : (o ≡ Less) ↔ ComesBefore a b
  less_is = (said Less, λ c. e ∙ ap₂ (slice_cmp frame_cmp) c.a_is c.b_is ∙ same_front c.front c.rest_of_a c.rest_of_b ∙ starts_less c.rest_of_a c.rest_of_b c.before)

  pub equal_is : (o ≡ Equal) ↔ (a ≡ b)
  equal_is = (said Equal, λ q. e ∙ ap (slice_cmp frame_cmp a) (sym q) ∙ ap₂ (slice_cmp frame_cmp) (sym (append-nil a)) (sym (append-nil a)) ∙ same_front a [] [])

  pub greater_is : (o ≡ Greater) ↔ ComesBefore b a
  greater_is = (said Greater, λ c. e ∙ ap₂ (slice_cmp frame_cmp) c.b_is c.a_is ∙ same_front c.front c.rest_of_b c.rest_of_a ∙ starts_greater c.rest_of_b c.rest_of_a c.before)
