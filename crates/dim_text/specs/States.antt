-- The words for the two states of a signature.
use Rattle.std.specs.Prelude.{ℕ, Bool, true, false, if◌then◌else◌, List, Option, Some, None, codes}
use Rattle.std.specs.Str.{bytes_eq}

-- the word for a state
abbrev pub state_word : Bool → List ℕ
state_word on = if on then codes "on" else codes "off"

-- the state that a word names
abbrev pub state_in : List ℕ → Option Bool
state_in word =
    if bytes_eq word (codes "on") then Some true
    else (if bytes_eq word (codes "off") then Some false
    else None)
