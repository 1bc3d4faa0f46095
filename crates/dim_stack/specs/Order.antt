-- When stacks are equal, and which of two comes first.
use Rattle.std.specs.Prelude.{◌≡◌, ℕ, nat_eq, ◌<◌, ◌⊎◌, ⊤, Bool, ◌&&◌, List, [], ◌∷◌, ◌++◌}
use Rattle.std.proofs.Common.{refl, ap, sym, ◌∙◌, arith}
use Rattle.std.proofs.lemmas.Bool.Decides.{nat_tests}
use Rattle.std.specs.Ordering.{nat_cmp, on, then_cmp, eq_of_both, is_eq, ordering_then}
use Rattle.std.specs.declared.cmp.Ordering.{Ordering}
use Rattle.std.specs.declared.cmp.Ordering.TheVariants.{Less, Equal, Greater}
use Rattle.std.specs.Cmp.Lexicographic.{slice_cmp, pointwise}
use Rattle.dim_stack.specs.declared.Frame.{Frame}

-- whether two frames are equal
abbrev pub frame_eq : Frame → Frame → Bool
frame_eq = eq_of_both (on (λ f. f.func) nat_eq) (on (λ f. f.at) nat_eq)

-- by function, and then by offset
abbrev pub frame_cmp : Frame → Frame → Ordering
frame_cmp = then_cmp (on (λ f. f.func) nat_cmp) (on (λ f. f.at) nat_cmp)

-- a frame has a lesser function than another, or the same function and a lesser offset
abbrev pub FrameBefore : Frame → Frame → Type 0
FrameBefore x y = (x.func < y.func) ⊎ ((x.func ≡ y.func) × (x.at < y.at))

-- of two lists of frames one is empty and the other is not, or has the lesser first frame
abbrev pub StartsBefore : List Frame → List Frame → Type 0
StartsBefore [] [] = ⊥
StartsBefore [] (y ∷ ys) = ⊤
StartsBefore (x ∷ xs) [] = ⊥
StartsBefore (x ∷ xs) (y ∷ ys) = FrameBefore x y

-- behind the frames with which both begin, a ends and b does not, or a has the lesser frame
pub record ComesBefore (a b : List Frame) : Type 0 where
  pub front : List Frame
  pub rest_of_a : List Frame
  pub rest_of_b : List Frame
  pub a_is : a ≡ front ++ rest_of_a
  pub b_is : b ≡ front ++ rest_of_b
  pub before : StartsBefore rest_of_a rest_of_b

is_eq-then : (o p : Ordering) → is_eq (ordering_then o p) ≡ (is_eq o && is_eq p)
is_eq-then Less p = refl
is_eq-then Equal p = refl
is_eq-then Greater p = refl

eqb-cmp : (a b : ℕ) → nat_eq a b ≡ is_eq (nat_cmp a b)
eqb-cmp a b = grind (arith, nat_tests)

frame_eq-cmp : (a b : Frame) → frame_eq a b ≡ is_eq (frame_cmp a b)
frame_eq-cmp a b = ap (λ x. x && nat_eq a.at b.at) (eqb-cmp a.func b.func) ∙ ap (λ x. is_eq (nat_cmp a.func b.func) && x) (eqb-cmp a.at b.at) ∙ sym (is_eq-then _ _)

-- stacks that are equal are those between which the order does not decide
pub stack_eq-cmp : (xs ys : List Frame)
    → pointwise frame_eq xs ys ≡ is_eq (slice_cmp frame_cmp xs ys)
stack_eq-cmp [] [] = refl
stack_eq-cmp [] (y ∷ ys) = refl
stack_eq-cmp (x ∷ xs) [] = refl
stack_eq-cmp (x ∷ xs) (y ∷ ys) = ap (λ b. b && pointwise frame_eq xs ys) (frame_eq-cmp x y) ∙ ap (λ b. is_eq (frame_cmp x y) && b) (stack_eq-cmp xs ys) ∙ sym (is_eq-then _ _)
