-- The lines of what a command came to, and the statuses of refusals.
use Rattle.std.specs.Prelude.{ℕ, List, ◌++◌, codes}
use Rattle.std.specs.Fmt.{decimal}
use Rattle.dim_asm.specs.Faults.{kind_number}
use Rattle.dim_history_file.specs.Faults.{kind_number as file_kind_number}
use Rattle.dim_trace.specs.declared.verdict.Rule.{Rule}
use Rattle.dim_trace.specs.declared.verdict.Rule.TheVariants as rule
use Rattle.dim_trace.specs.Faults.{kind_number as trace_kind_number}
use Rattle.dim_inquiry.specs.declared.stop.Place.{Place}
use Rattle.dim_inquiry.specs.declared.stop.Place.TheVariants as places
use Rattle.dim_inquiry.specs.declared.stop.Refusal.{Refusal}
use Rattle.dim_inquiry.specs.declared.stop.Refusal.TheVariants as refusals

abbrev pub place_word : Place → List ℕ
place_word places.Program = codes "program"
place_word places.History = codes "history"
place_word places.NewHistory = codes "newhistory"
place_word places.Trace = codes "trace"

-- the status of a refusal, and its line
abbrev pub refusal_status : Refusal → ℕ
refusal_status refusals.Words = 2
refusal_status (refusals.BadProgram fault) = 5
refusal_status (refusals.BadHistory fault) = 6
refusal_status (refusals.Full signatures bytes) = 10
refusal_status (refusals.No place rule) = 11
refusal_status (refusals.Long place) = 12
refusal_status (refusals.BadTrace fault) = 13
refusal_status (refusals.NoSignature index) = 14
refusal_status refusals.ManyNestings = 15
refusal_status (refusals.Absent place) = 16

-- the line of a fault of a text
abbrev pub bad_line : List ℕ → ℕ → ℕ → List ℕ
bad_line word line kind = word
    ++ (codes " line " ++ (decimal line ++ (codes " kind " ++ (decimal kind ++ codes "\n"))))

-- a line about the file at a place
abbrev pub file_line : List ℕ → Place → List ℕ
file_line what place = codes "file " ++ (what ++ (codes " " ++ (place_word place ++ codes "\n")))

abbrev pub rule_word : Rule → List ℕ
rule_word rule.Legal = codes "legal"
rule_word rule.Walk = codes "walk"
rule_word rule.Settled = codes "settled"

abbrev pub refusal_line : Refusal → List ℕ
refusal_line refusals.Words = codes "words\n"
refusal_line (refusals.BadProgram fault) = bad_line (codes "program") fault.line (kind_number fault.kind)
refusal_line (refusals.BadHistory fault) = bad_line (codes "history") fault.line (file_kind_number fault.kind)
refusal_line (refusals.Full signatures bytes) = codes "history full "
    ++ (decimal signatures ++ (codes " " ++ (decimal bytes ++ codes "\n")))
refusal_line (refusals.No place rule) = codes "no "
    ++ (decimal place ++ (codes " " ++ (rule_word rule ++ codes "\n")))
refusal_line (refusals.BadTrace fault) = bad_line (codes "trace") fault.line (trace_kind_number fault.kind)
refusal_line (refusals.NoSignature index) = codes "no signature " ++ (decimal index ++ codes "\n")
refusal_line refusals.ManyNestings = codes "nestings over 4096\n"
refusal_line (refusals.Long place) = file_line (codes "long") place
refusal_line (refusals.Absent place) = file_line (codes "absent") place

-- the line after a failed call, and the one where memory ran out
abbrev pub fault_line : Place → List ℕ
fault_line place = file_line (codes "fault") place

abbrev pub memory_line : List ℕ
memory_line = codes "memory\n"
