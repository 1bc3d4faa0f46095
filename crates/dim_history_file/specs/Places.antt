-- The first fault of a history's text, by its place.
use Rattle.std.specs.Prelude.{◌≡◌, ℕ, List, Err}
use Rattle.dim_text.specs.Places.{Reading, IsFirstFault}
use Rattle.dim_history_file.specs.declared.fault.FileKind.{FileKind}
use Rattle.dim_history_file.specs.declared.fault.FileFault.{FileFault}
use Rattle.dim_history_file.specs.Faults.{fault}
use Rattle.dim_history_file.specs.Judging.{State, step, at_end, start, history_of}
use Rattle.dim_history_file.specs.Value.{NamedSig}

-- how a text is read
abbrev pub reading : Reading State (List NamedSig) FileKind
reading = record { step = step; at_end = at_end; start = start }

-- the fault that is read is the first of the text
abbrev pub FoundLaw : Type 0
FoundLaw = (bytes : List ℕ) (f : FileFault) → history_of bytes ≡ Err f
    → IsFirstFault reading bytes f.line f.kind

-- and where a text has a first fault, it is read
abbrev pub OnlyLaw : Type 0
OnlyLaw = (bytes : List ℕ) (n : ℕ) (kind : FileKind) → IsFirstFault reading bytes n kind
    → history_of bytes ≡ Err (fault n kind)
