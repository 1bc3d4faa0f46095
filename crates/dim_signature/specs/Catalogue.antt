-- What contracts see of a catalogue.
use Rattle.std.specs.Prelude.{◌≡◌, ◌≢◌, ℕ, ◌≤◌, Bool, All, AllPairs, List, [], length, position, slice_get, slice_index_or, slice_set, Option, Some, None}
use Rattle.std.specs.Cmp.Lexicographic.{pointwise}
use Rattle.dim_stack.specs.declared.Frame.{Frame}
use Rattle.dim_stack.specs.Order.{frame_eq}
use Rattle.dim_signature.specs.Sig.{Sig, IsSig, fresh, switched, counted}
use Rattle.dim_signature.specs.Sorted.{AreSorted}

-- the signatures by their numbers, and room for signatures to be learnt
pub record Contents : Type 0 where
  pub sigs : List Sig
  pub spare : ℕ

-- what holds of the signatures of every catalogue
pub record IsCatalogue (sigs : List Sig) : Type 0 where
  pub few : length sigs ≤ 4096
  pub in_range : All IsSig sigs
  pub sorted : All (λ s. AreSorted s.stacks) sigs
  pub distinct : AllPairs (λ s t. s.stacks ≢ t.stacks) sigs

-- whether a signature has these stacks
abbrev pub has_stacks : List (List Frame) → Sig → Bool
has_stacks stacks s = pointwise (pointwise frame_eq) s.stacks stacks

-- the number of the signature with these stacks, if there is one
abbrev pub signature_number : List Sig → List (List Frame) → Option ℕ
signature_number sigs stacks = position (has_stacks stacks) sigs

-- the signatures, of which the one with this number is another: what `change` makes of it
abbrev pub changed_at : ℕ → (Sig → Sig) → List Sig → List Sig
changed_at i change sigs = slice_set sigs i (change (slice_index_or sigs i (fresh 0 [])))

-- the signature with that number has these stacks
abbrev pub FoundLaw : Type 0
FoundLaw = (sigs : List Sig) (stacks : List (List Frame)) (n : ℕ) → signature_number sigs stacks ≡ Some n
    → (s : Sig) × (slice_get sigs n ≡ Some s) × (s.stacks ≡ stacks)

-- where there is no number, no signature has them
abbrev pub MissingLaw : Type 0
MissingLaw = (sigs : List Sig) (stacks : List (List Frame)) → signature_number sigs stacks ≡ None
    → All (λ s. s.stacks ≢ stacks) sigs

-- the stacks of each signature of a catalogue have its own number
abbrev pub OwnLaw : Type 0
OwnLaw = (sigs : List Sig) → IsCatalogue sigs → (n : ℕ) (s : Sig) → slice_get sigs n ≡ Some s
    → signature_number sigs s.stacks ≡ Some n

-- no state and no number of yields says which stacks have which number
abbrev pub SwitchedLaw : Type 0
SwitchedLaw = (sigs : List Sig) (i : ℕ) (on : Bool) (stacks : List (List Frame))
    → signature_number (changed_at i (switched on) sigs) stacks ≡ signature_number sigs stacks

abbrev pub CountedLaw : Type 0
CountedLaw = (sigs : List Sig) (i more : ℕ) (stacks : List (List Frame))
    → signature_number (changed_at i (counted more) sigs) stacks ≡ signature_number sigs stacks
