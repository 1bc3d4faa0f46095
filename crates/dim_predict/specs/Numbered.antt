-- Numbers of stacks in a map.
use Rattle.std.specs.Prelude.{◌≡◌, ℕ, ◌<◌, ◌==◌, Bool, false, List, [], ◌∷◌, length, slice_index, Option, Some, None, cond}
use Rattle.std.specs.BTreeMap.{BTreeMap, get}
use Rattle.std.specs.Ordering.{is_eq}
use Rattle.dim_stack.specs.declared.Frame.{Frame}
use Rattle.dim_signature.specs.Sorted.{stack_cmp}
use Rattle.dim_predict.specs.declared.key.Key.{Key}
use Rattle.dim_predict.specs.Pairs.{pair_slot, stack_at}

-- the number of a stack, or this one where it has none
abbrev pub or_here : ℕ → Option ℕ → ℕ
or_here here None = here
or_here here (Some n) = n

-- n is the number that a map has for a stack, or this one, which it has for it then
pub record IsNumbered (old new : BTreeMap (List Frame) ℕ) (stack : List Frame) (here n : ℕ) : Type 0 where
  pub value : n ≡ or_here here (get stack_cmp old stack)
  pub others : (q : List Frame) → get stack_cmp new q ≡ cond (is_eq (stack_cmp stack q)) (Some n) (get stack_cmp old q)

-- a map has a number for each stack of the first i keys and for no other: the place of a key with
-- it. And a list has them key by key
pub record IsNumberedTo (keys : List Key) (i : ℕ) (firsts : BTreeMap (List Frame) ℕ) (numbers : List ℕ) : Type 0 where
  pub size : length numbers ≡ i
  pub first : (s : List Frame) (n : ℕ) → get stack_cmp firsts s ≡ Some n → (n < i) × ((d : Key) → stack_at keys n d ≡ s)
  pub known : (j : ℕ) (d : Key) → j < i → get stack_cmp firsts (stack_at keys j d) ≡ Some (slice_index numbers j)

-- two numbers, if both are there
abbrev pub two : Option ℕ → Option ℕ → Option (ℕ × ℕ)
two (Some a) (Some b) = Some (a, b)
two (Some a) None = None
two None _ = None

-- the numbers of two stacks in a map, if there are two and both have one
abbrev pub pair_in : BTreeMap (List Frame) ℕ → List (List Frame) → Option (ℕ × ℕ)
pair_in m (a ∷ b ∷ []) = two (get stack_cmp m a) (get stack_cmp m b)
pair_in m [] = None
pair_in m (a ∷ []) = None
pair_in m (a ∷ b ∷ c ∷ stacks) = None

-- whether a pair of numbers has this place in a table
abbrev pub is_at : ℕ → Option (ℕ × ℕ) → Bool
is_at slot None = false
is_at slot (Some p) = pair_slot p.0 p.1 == slot
