-- The first fault of a trace's text, by its place.
use Rattle.std.specs.Prelude.{◌≡◌, ℕ, List, Err}
use Rattle.dim_text.specs.Places.{Reading, IsFirstFault}
use Rattle.dim_asm.specs.Code.{Code}
use Rattle.dim_trace.specs.declared.fault.TraceKind.{TraceKind}
use Rattle.dim_trace.specs.declared.fault.TraceFault.{TraceFault}
use Rattle.dim_trace.specs.Faults.{fault}
use Rattle.dim_trace.specs.Judging.{State, step, at_end, start, trace_of}
use Rattle.dim_trace.specs.Value.{TraceValue}

-- how a text is read for a program and a table of names
abbrev pub reading : Code → List (List ℕ) → Reading State TraceValue TraceKind
reading p names = record { step = step p names; at_end = at_end; start = start }

-- the fault that is read is the first of the text
abbrev pub FirstLaw : Type 0
FirstLaw = (p : Code) (names : List (List ℕ)) (bytes : List ℕ) (f : TraceFault)
    → trace_of p names bytes ≡ Err f → IsFirstFault (reading p names) bytes f.line f.kind

-- and where a text has a first fault, it is read
abbrev pub OnlyLaw : Type 0
OnlyLaw = (p : Code) (names : List (List ℕ)) (bytes : List ℕ) (n : ℕ) (kind : TraceKind)
    → IsFirstFault (reading p names) bytes n kind → trace_of p names bytes ≡ Err (fault n kind)
