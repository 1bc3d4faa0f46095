-- What words are to a call that waits for nothing.
use Rattle.std.specs.Prelude.{List, ℕ, Option, Some, None}
use Rattle.dim_words.specs.Words.{Asked, Live, command_of}

-- `live` is no command to it
abbrev pub unless_live : Option Asked → Option Asked
unless_live (Some (Live w)) = None
unless_live asked = asked

abbrev pub quiet_command : List (List ℕ) → Option Asked
quiet_command words = unless_live (command_of words)

-- the words aren't those of `live`
abbrev pub IsQuiet : Option Asked → Type 0
IsQuiet (Some (Live w)) = ⊥
IsQuiet asked = Unit {0}
