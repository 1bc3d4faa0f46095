-- The first fault of a log's text, by its place.
use Rattle.std.specs.Prelude.{◌≡◌, ℕ, List, [], Err}
use Rattle.dim_text.specs.Places.{Reading, IsFirstFault}
use Rattle.dim_log.specs.declared.log.LogFaultKind.{LogFaultKind}
use Rattle.dim_log.specs.declared.log.LogFault.{LogFault}
use Rattle.dim_log.specs.Faults.{fault}
use Rattle.dim_log.specs.Saying.{step, at_end, log_of}
use Rattle.dim_log.specs.Value.{Said, LogValue}

-- how a text is read
abbrev pub reading : Reading (List Said) LogValue LogFaultKind
reading = record { step = step; at_end = at_end; start = [] }

-- the fault that is read is the first of the text
abbrev pub FoundLaw : Type 0
FoundLaw = (bytes : List ℕ) (f : LogFault) → log_of bytes ≡ Err f
    → IsFirstFault reading bytes f.line f.kind

-- and where a text has a first fault, it is read
abbrev pub OnlyLaw : Type 0
OnlyLaw = (bytes : List ℕ) (n : ℕ) (kind : LogFaultKind) → IsFirstFault reading bytes n kind
    → log_of bytes ≡ Err (fault n kind)
