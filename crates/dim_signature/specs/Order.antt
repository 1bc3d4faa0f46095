-- The numbers of signatures in the order of their stacks, and the room of a catalogue.
use Rattle.std.specs.Prelude.{◌≡◌, ℕ, ◌+◌, ◌<◌, ◌≤◌, All, List, [], length, slice_index, slice_index_or, Vec, vec_capacity}
use Rattle.std.specs.declared.alloc.Global.{Global}
use Rattle.std.specs.declared.cmp.Ordering.{Ordering}
use Rattle.std.specs.declared.cmp.Ordering.TheVariants.{Less, Greater}
use Rattle.std.specs.Cmp.Lexicographic.{slice_cmp}
use Rattle.dim_stack.specs.declared.Frame.{Frame}
use Rattle.dim_signature.specs.Sig.{Sig, fresh}
use Rattle.dim_signature.specs.Sorted.{stack_cmp}
use Rattle.dim_signature.specs.Catalogue.{IsCatalogue}

-- lists of stacks are compared stack by stack
abbrev pub stacks_cmp : List (List Frame) → List (List Frame) → Ordering
stacks_cmp = slice_cmp stack_cmp

-- what is read where there is no signature
abbrev pub no_sig : Sig
no_sig = fresh 0 []

-- the stacks of the signature with a number
abbrev pub stacks_of : List Sig → ℕ → List (List Frame)
stacks_of sigs number = (slice_index_or sigs number no_sig).stacks

-- the stacks of the signature at a place of the order
abbrev pub stacks_at : List Sig → List ℕ → ℕ → List (List Frame)
stacks_at sigs order place = stacks_of sigs (slice_index order place)

-- each number stands in the order once, and the stacks ascend along it
pub record IsOrder (sigs : List Sig) (order : List ℕ) : Type 0 where
  pub size : length order ≡ length sigs
  pub within : (k : ℕ) → k < length order → slice_index order k < length sigs
  pub ascends : (j k : ℕ) → j < k → k < length order
      → stacks_cmp (stacks_at sigs order j) (stacks_at sigs order k) ≡ Less
  pub all : (i : ℕ) → i < length sigs → (k : ℕ) × (k < length order) × (slice_index order k ≡ i)

-- these stacks belong at a place of the order, where no signature has them
pub record BelongsAt (sigs : List Sig) (order : List ℕ) (stacks : List (List Frame)) (place : ℕ) : Type 0 where
  pub within : place ≤ length order
  pub below : (k : ℕ) → k < place → stacks_cmp (stacks_at sigs order k) stacks ≡ Less
  pub above : (k : ℕ) → place ≤ k → k < length order
      → stacks_cmp (stacks_at sigs order k) stacks ≡ Greater

-- empty, with room for the stacks of one signature
pub record IsRoom (room : Vec (List Frame) Global) : Type 0 where
  pub empty : room.items ≡ []
  pub wide : 32 ≤ vec_capacity room

-- how a catalogue keeps its signatures
pub record AreNumbered (list : Vec Sig Global) (numbers : Vec ℕ Global) (empty : Vec (Vec (List Frame) Global) Global) : Type 0 where
  pub catalogue : IsCatalogue list.items
  pub order : IsOrder list.items numbers.items
  pub rooms : All IsRoom empty.items
  pub list_room : length list.items + length empty.items ≤ vec_capacity list
  pub order_room : length list.items + length empty.items ≤ vec_capacity numbers
