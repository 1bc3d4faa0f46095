-- How a text is read, by the places of its parts: its lines, and then what stands behind the last
-- line feed.
use Rattle.std.specs.Prelude.{◌≡◌, ℕ, ◌+◌, ◌<◌, List, [], length, get_or, Result, Ok, Err}
use Rattle.dim_text.specs.Cuts.{lines_of}

-- how a reader takes a part, and how it ends at the last one
pub record Reading (S A K : Type 0) : Type 0 where
  pub step : S → List ℕ → Result S K
  pub at_end : S → List ℕ → Result A K
  pub start : S

-- the state with a number, and a part with a number
abbrev pub state_at : {S A K : Type 0} → Reading S A K → List S → ℕ → S
state_at r states i = get_or states i r.start

abbrev pub part_at : List (List ℕ) → ℕ → List ℕ
part_at parts i = get_or parts i []

-- the first of these states is this one, and each part leads from the state before it to the next
pub record Leads {S A K : Type 0} (r : Reading S A K) (first : S) (states : List S) (parts : List (List ℕ)) : Type 0 where
  pub begins : state_at r states 0 ≡ first
  pub steps : (i : ℕ) → i + 1 < length states
      → r.step (state_at r states i) (part_at parts i) ≡ Ok (state_at r states (i + 1))

-- the parts before a place are taken, each in its state, and the part there has a fault of this
-- kind
pub record FailsAt {S A K : Type 0} (r : Reading S A K) (first : S) (states : List S) (parts : List (List ℕ)) (i : ℕ) (kind : K) : Type 0 where
  pub within : i < length parts
  pub size : length states ≡ i + 1
  pub leads : Leads r first states parts
  pub line : i + 1 < length parts → r.step (state_at r states i) (part_at parts i) ≡ Err kind
  pub last : i + 1 ≡ length parts → r.at_end (state_at r states i) (part_at parts i) ≡ Err kind

-- the first fault of a text is in this line, counted from 1, and of this kind
pub record IsFirstFault {S A K : Type 0} (r : Reading S A K) (bytes : List ℕ) (n : ℕ) (kind : K) : Type 0 where
  pub i : ℕ
  pub states : List S
  pub line_is : n ≡ i + 1
  pub fails : FailsAt r r.start states (lines_of bytes) i kind
