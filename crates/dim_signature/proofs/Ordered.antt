-- The orders of stacks and of lists of stacks are total, and decide equality.
use Rattle.std.proofs.Common.{◌≡◌, ◌<◌, ap, ap₂, refl, sym, ◌∙◌, Bool, true, false, List, [], ◌∷◌}
use Rattle.std.specs.Cmp.{IsTotalOrder}
use Rattle.std.specs.Cmp.Lexicographic.{slice_cmp}
use Rattle.std.specs.Ordering.{nat_cmp, ordering_then, ordering_reverse, is_le, is_lt, is_gt, MatchOrdering}
use Rattle.std.specs.declared.cmp.Ordering.{Ordering}
use Rattle.std.specs.declared.cmp.Ordering.TheVariants.{Less, Equal, Greater}
use Rattle.std.proofs.lemmas.Cmp.{ranked, nat_cmp_total, on_total, then_total, lists_total, tied_itself, upto}
use Rattle.dim_stack.specs.declared.Frame.{Frame}
use Rattle.dim_stack.specs.Order.{frame_cmp}
use Rattle.dim_signature.specs.Sorted.{stack_cmp}
use Rattle.dim_signature.specs.Order.{stacks_cmp}

frame_total : IsTotalOrder frame_cmp
frame_total = then_total (on_total (λ (f : Frame). f.func) nat_cmp_total) (on_total (λ (f : Frame). f.at) nat_cmp_total)

pub stack_total : IsTotalOrder stack_cmp
stack_total = lists_total frame_total

pub stacks_total : IsTotalOrder stacks_cmp
stacks_total = lists_total stack_total

frame_same : (x y : Frame) → frame_cmp x y ≡ Equal → x ≡ y
frame_same x y = go (nat_cmp x.func y.func) (nat_cmp x.at y.at) (ranked x.func y.func _ refl) (ranked x.at y.at _ refl)
  where
    go : (o p : Ordering) → MatchOrdering o (x.func < y.func) (x.func ≡ y.func) (y.func < x.func) → MatchOrdering p (x.at < y.at) (x.at ≡ y.at) (y.at < x.at) → ordering_then o p ≡ Equal → x ≡ y
    go Less p f a e = cc
    go Greater p f a e = cc
    go Equal Less f a e = cc
    go Equal Equal f a e = λ i. record { func = f i; at = a i }
    go Equal Greater f a e = cc

lists_same : {X : Type 0} (R : X → X → Ordering) → ((x y : X) → R x y ≡ Equal → x ≡ y) → (xs ys : List X) → slice_cmp R xs ys ≡ Equal → xs ≡ ys
lists_same R same [] [] e = refl
lists_same R same [] (y ∷ ys) e = cc
lists_same R same (x ∷ xs) [] e = cc
lists_same R same (x ∷ xs) (y ∷ ys) e = go (R x y) (slice_cmp R xs ys) (same x y) (lists_same R same xs ys) e
  where
    go : (o p : Ordering) → (o ≡ Equal → x ≡ y) → (p ≡ Equal → xs ≡ ys) → ordering_then o p ≡ Equal → x ∷ xs ≡ y ∷ ys
    go Less p f g e = cc
    go Greater p f g e = cc
    go Equal p f g e = ap₂ (λ z zs. z ∷ zs) (f refl) (g e)

pub stack_same : (a b : List Frame) → stack_cmp a b ≡ Equal → a ≡ b
stack_same = lists_same frame_cmp frame_same

pub stacks_same : (a b : List (List Frame)) → stacks_cmp a b ≡ Equal → a ≡ b
stacks_same = lists_same stack_cmp stack_same

-- not after, as a test
abbrev pub le : List Frame → List Frame → Bool
le a b = is_le (stack_cmp a b)

pub le_refl : (a : List Frame) → le a a ≡ true
le_refl a = ap is_le (tied_itself stack_total a)

back : (o : Ordering) → is_le o ≡ false → is_le (ordering_reverse o) ≡ true
back Less e = cc
back Equal e = cc
back Greater e = refl

pub le_back : (a b : List Frame) → le a b ≡ false → le b a ≡ true
le_back a b e = ap is_le (stack_total.antisymm b a) ∙ back (stack_cmp a b) e

pub not_lt-le : (a b : List Frame) → is_lt (stack_cmp b a) ≡ false → le a b ≡ true
not_lt-le a b e = ap is_le (stack_total.antisymm a b) ∙ go (stack_cmp b a) e
  where
    go : (o : Ordering) → is_lt o ≡ false → is_le (ordering_reverse o) ≡ true
    go Less e = cc
    go Equal e = refl
    go Greater e = refl

pub le-not_lt : (a b : List Frame) → le a b ≡ true → is_lt (stack_cmp b a) ≡ false
le-not_lt a b e = ap is_lt (stack_total.antisymm b a) ∙ go (stack_cmp a b) e
  where
    go : (o : Ordering) → is_le o ≡ true → is_lt (ordering_reverse o) ≡ false
    go Less e = refl
    go Equal e = refl
    go Greater e = cc

pub le_antisymm : (a b : List Frame) → le a b ≡ true → le b a ≡ true → a ≡ b
le_antisymm a b e f = stack_same a b (go (stack_cmp a b) e (ap is_le (sym (stack_total.antisymm b a)) ∙ f))
  where
    go : (o : Ordering) → is_le o ≡ true → is_le (ordering_reverse o) ≡ true → o ≡ Equal
    go Less e f = cc
    go Equal e f = refl
    go Greater e f = cc

le-gt : (o : Ordering) → is_le o ≡ true → is_gt o ≡ false
le-gt Less e = refl
le-gt Equal e = refl
le-gt Greater e = cc

gt-le : (o : Ordering) → is_gt o ≡ false → is_le o ≡ true
gt-le Less e = refl
gt-le Equal e = refl
gt-le Greater e = cc

pub le_trans : (a b c : List Frame) → le a b ≡ true → le b c ≡ true → le a c ≡ true
le_trans a b c e f = gt-le (stack_cmp a c) (upto stack_total a b c (le-gt (stack_cmp a b) e) (le-gt (stack_cmp b c) f))
