-- How long the texts of histories are.
use Rattle.std.specs.Prelude.{◌≡◌, ℕ, ◌+◌, ◌*◌, ◌≤◌, List, length, slice_get, Some, Ok}
use Rattle.dim_history_file.specs.Value.{NamedSig}
use Rattle.dim_history_file.specs.Grammar.{IsHistory}
use Rattle.dim_history_file.specs.Judging.{history_of}
use Rattle.dim_history_file.specs.Spelling.{history_text}

-- the newer history has each signature of the older one, by its number, with yields of its own
abbrev pub HasGrown : List NamedSig → List NamedSig → Type 0
HasGrown older newer = (i : ℕ) (s : NamedSig) → slice_get older i ≡ Some s
    → (yields : ℕ) × (slice_get newer i ≡ Some record s { yields = yields })

-- The text that is written of a history that was read is longer by at most five bytes a signature:
-- version 1 leaves out the state and the yields. That of one which has grown is longer by at most
-- ten bytes a signature, for its yields, four, for the number of signatures, and 31,775 for each
-- new signature.
pub record LengthLaw : Type 0 where
  pub read : (bytes : List ℕ) (sigs : List NamedSig) → history_of bytes ≡ Ok sigs
      → length (history_text sigs) ≤ length bytes + 5 * length sigs
  pub grown : (older newer : List NamedSig) → IsHistory newer → HasGrown older newer
      → length (history_text newer) + 31775 * length older
      ≤ length (history_text older) + 10 * length older + 31775 * length newer + 4
