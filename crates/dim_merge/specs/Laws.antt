-- What a merged history keeps of the two.
use Rattle.std.specs.Prelude.{◌≡◌, ℕ, ◌≤◌, ◌||◌, false, Contains, List, [], map, length, slice_get, Some, Ok}
use Rattle.dim_history_file.specs.Grammar.{AreDistinct, IsHistory}
use Rattle.dim_history_file.specs.Judging.{history_of}
use Rattle.dim_history_file.specs.Spelling.{history_text}
use Rattle.dim_history_file.specs.Value.{NamedFrame, NamedSig, have_stacks}
use Rattle.dim_merge.specs.Merging.{merged, with_yields}

-- it has the stacks that either has
abbrev pub KnownLaw : Type 0
KnownLaw = (first second : List NamedSig) (stacks : List (List NamedFrame))
    → have_stacks (merged first second) stacks ≡ (have_stacks first stacks || have_stacks second stacks)

-- and each of them once
abbrev pub OnceLaw : Type 0
OnceLaw = (first second : List NamedSig) → AreDistinct first → AreDistinct second
    → AreDistinct (merged first second)

-- each signature of the first has its own number, its stacks, its depth and its state
abbrev pub FirstLaw : Type 0
FirstLaw = (first second : List NamedSig) (n : ℕ) (s : NamedSig) → slice_get first n ≡ Some s
    → slice_get (merged first second) n ≡ Some (with_yields second s)

-- each of the second that the first doesn't know is there as it was
abbrev pub SecondLaw : Type 0
SecondLaw = (first second : List NamedSig) (n : ℕ) (s : NamedSig) → slice_get second n ≡ Some s
    → have_stacks first s.stacks ≡ false → Contains (merged first second) s

-- with the history that knows none, on either side, it is the other one
abbrev pub NoneLaw : Type 0
NoneLaw = (sigs : List NamedSig) → IsHistory sigs
    → (merged sigs [] ≡ sigs) × (merged [] sigs ≡ sigs)

-- with itself it has the same stacks, in the same order
abbrev pub ItselfLaw : Type 0
ItselfLaw = (sigs : List NamedSig) → map (λ s. s.stacks) (merged sigs sigs) ≡ map (λ s. s.stacks) sigs

-- it has a text where it has at most 4,096 signatures
abbrev pub HistoryLaw : Type 0
HistoryLaw = (first second : List NamedSig) → IsHistory first → IsHistory second
    → length (merged first second) ≤ 4096 → IsHistory (merged first second)

-- and is read again from it
abbrev pub AgainLaw : Type 0
AgainLaw = (first second : List NamedSig) → IsHistory first → IsHistory second
    → length (merged first second) ≤ 4096
    → history_of (history_text (merged first second)) ≡ Ok (merged first second)
