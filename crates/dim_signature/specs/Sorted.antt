-- The order of stacks, and a list of stacks in order.
use Rattle.std.specs.Prelude.{◌≡◌, if◌then◌else◌, List, [], ◌∷◌}
use Rattle.std.specs.List.Sorted.{IsPermutation, IsSorted}
use Rattle.std.specs.Ordering.{is_le}
use Rattle.std.specs.declared.cmp.Ordering.{Ordering}
use Rattle.std.specs.Cmp.Lexicographic.{slice_cmp}
use Rattle.dim_stack.specs.declared.Frame.{Frame}
use Rattle.dim_stack.specs.Order.{frame_cmp}

-- stacks are compared frame by frame, and a proper prefix comes first
abbrev pub stack_cmp : List Frame → List Frame → Ordering
stack_cmp = slice_cmp frame_cmp

-- no stack comes before the one that stands before it
abbrev pub AreSorted : List (List Frame) → Type 0
AreSorted stacks = IsSorted stack_cmp stacks

-- a stack among sorted ones
abbrev pub insert : List Frame → List (List Frame) → List (List Frame)
insert s [] = s ∷ []
insert s (x ∷ xs) = if is_le (stack_cmp s x) then s ∷ x ∷ xs else x ∷ insert s xs

-- the stacks in order
abbrev pub sorted : List (List Frame) → List (List Frame)
sorted [] = []
sorted (x ∷ xs) = insert x (sorted xs)

-- it is in order
abbrev pub SortedLaw : Type 0
SortedLaw = (stacks : List (List Frame)) → AreSorted (sorted stacks)

-- it has the same stacks
abbrev pub SameStacksLaw : Type 0
SameStacksLaw = (stacks : List (List Frame)) → IsPermutation stacks (sorted stacks)

-- and it is the only list of which both hold
abbrev pub OnlySortedLaw : Type 0
OnlySortedLaw = (stacks others : List (List Frame)) → IsPermutation stacks others → AreSorted others
    → others ≡ sorted stacks
