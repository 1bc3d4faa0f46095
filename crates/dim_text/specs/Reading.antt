-- Reading a text line by line, with the first fault that is met.
use Rattle.std.specs.Prelude.{◌≡◌, ℕ, ◌+◌, List, [], ◌∷◌, Option, Some, None, Result, Ok, Err}

infixl 10 ◌>>=◌
abbrev pub ◌>>=◌ : {A B E : Type 0} → Result A E → (A → Result B E) → Result B E
(Ok x) >>= f = f x
(Err e) >>= f = Err e

abbrev pub or_else : {A E : Type 0} → Option A → E → Result A E
or_else (Some x) e = Ok x
or_else None e = Err e

-- a fault in the line of this number
abbrev pub in_line : {A K F : Type 0} → (ℕ → K → F) → ℕ → Result A K → Result A F
in_line fault n (Ok x) = Ok x
in_line fault n (Err kind) = Err (fault n kind)

-- The parts of a text read from a state on, where the first has this number. Each has a line feed
-- behind it and is one step; the last has none, and ends the reading.
unfoldable pub read_from : {S A K F : Type 0} → (ℕ → K → F) → (S → List ℕ → Result S K)
    → (S → List ℕ → Result A K) → S → ℕ → List (List ℕ) → Result A F
read_from fault step at_end s n [] = in_line fault n (at_end s [])
read_from fault step at_end s n (last ∷ []) = in_line fault n (at_end s last)
read_from fault step at_end s n (line ∷ next ∷ lines) = in_line fault n (step s line) >>= λ t. read_from fault step at_end t (n + 1) (next ∷ lines)

-- An error that a reader returned stands for this fault, or for want of memory, which may come
-- anywhere.
abbrev pub Fails : {A F : Type 0} → Option F → Result A F → Type 0
Fails None right = Unit {0}
Fails (Some fault) right = right ≡ Err fault

-- What a reader returned, seen by view, is this, unless memory ran out; fault_of says which fault
-- an error is.
abbrev pub Gives : {X A E F : Type 0} → (E → Option F) → (X → A) → Result X E → Result A F → Type 0
Gives fault_of view (Ok x) right = right ≡ Ok (view x)
Gives fault_of view (Err e) right = Fails (fault_of e) right

-- The same of a call that leaves a state.
abbrev pub Leaves : {S E F : Type 0} → (E → Option F) → S → Result (Unit {0}) E → Result S F
    → Type 0
Leaves fault_of state result right = Gives fault_of (λ _. state) result right
