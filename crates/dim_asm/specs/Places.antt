-- The first fault of a program's text, by its place.
use Rattle.std.specs.Prelude.{◌≡◌, ℕ, ◌+◌, List, [], ◌∷◌, ◌++◌, length, Option, Some, None, is_some, Result, Ok, Err}
use Rattle.std.specs.List.{find}
use Rattle.dim_text.specs.Places.{Reading, IsFirstFault}
use Rattle.dim_asm.specs.declared.fault.AsmKind.{AsmKind}
use Rattle.dim_asm.specs.declared.fault.AsmFault.{AsmFault}
use Rattle.dim_asm.specs.Assembling.{program_of}
use Rattle.dim_asm.specs.Faults.{fault}
use Rattle.dim_asm.specs.Judging.{State, step, at_end, start, source_of}
use Rattle.dim_asm.specs.Linking.{Tables, tables_of, first_function, first_thread, link_draft, link_start, link}
use Rattle.dim_asm.specs.Source.{Source, DraftFunction}

-- how a text is read in the first pass
abbrev pub reading : Reading State Source AsmKind
reading = record { step = step; at_end = at_end; start = start }

-- the fault that the first pass finds is the first of the text
abbrev pub FoundLaw : Type 0
FoundLaw = (bytes : List ℕ) (f : AsmFault) → source_of bytes ≡ Err f
    → IsFirstFault reading bytes f.line f.kind

-- where a text has a first fault, no program is assembled, for that reason
abbrev pub OnlyLaw : Type 0
OnlyLaw = (bytes : List ℕ) (n : ℕ) (kind : AsmKind) → IsFirstFault reading bytes n kind
    → program_of bytes ≡ Err (fault n kind)

-- where it has none, the fault is that of linking what it says
abbrev pub SecondLaw : Type 0
SecondLaw = (bytes : List ℕ) (s : Source) (f : AsmFault) → source_of bytes ≡ Ok s → link s ≡ Err f
    → program_of bytes ≡ Err f

-- a line that is linked, and why it can't be, if it can't
pub record Judgement : Type 0 where
  pub line : ℕ
  pub fault : Option AsmKind

abbrev pub fault_in : {B : Type 0} → Result B AsmKind → Option AsmKind
fault_in (Ok y) = None
fault_in (Err kind) = Some kind

-- the lines of these, of which the first stands in line n
abbrev pub judged_lines : {A B : Type 0} → (A → Result B AsmKind) → ℕ → List A → List Judgement
judged_lines link n [] = []
judged_lines link n (x ∷ xs) = record { line = n; fault = fault_in (link x) }
    ∷ judged_lines link (n + 1) xs

-- the lines of the instructions of these functions, of which the first begins in line n
abbrev pub judged_functions : Tables → ℕ → List DraftFunction → List Judgement
judged_functions t n [] = []
judged_functions t n (f ∷ funcs) = judged_lines (link_draft t (length f.drafts)) (n + 1) f.drafts
    ++ judged_functions t (n + length f.drafts + 2) funcs

-- the lines of all instructions and of all threads, from top to bottom
abbrev pub judgements : Source → List Judgement
judgements s = judged_functions (tables_of s) (first_function s) s.funcs
    ++ judged_lines (link_start (tables_of s)) (first_thread s) s.threads

-- the judgement that a result tells, if it is a fault
abbrev pub told : {A : Type 0} → Result A AsmFault → Option Judgement
told (Ok x) = None
told (Err f) = Some record { line = f.line; fault = Some f.kind }

-- linking comes to the first line that can't be linked, and to a program where there is none
abbrev pub LinkLaw : Type 0
LinkLaw = (s : Source) → told (link s) ≡ find (λ j. is_some j.fault) (judgements s)
