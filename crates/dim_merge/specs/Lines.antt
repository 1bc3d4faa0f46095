-- The lines that are put, and the statuses of refusals.
use Rattle.std.specs.Prelude.{ℕ, List, ◌++◌, codes}
use Rattle.std.specs.Fmt.{decimal}
use Rattle.dim_history_file.specs.Faults.{kind_number}
use Rattle.dim_merge.specs.declared.stop.Place.{Place}
use Rattle.dim_merge.specs.declared.stop.Place.TheVariants.{First, Second, NewHistory}
use Rattle.dim_merge.specs.declared.stop.Refusal.{Refusal}
use Rattle.dim_merge.specs.declared.stop.Refusal.TheVariants.{Words, Absent, Long, Bad, Full}
use Rattle.dim_merge.specs.declared.stop.Stop.{Stop}
use Rattle.dim_merge.specs.declared.stop.Stop.TheVariants as stops

abbrev pub place_word : Place → List ℕ
place_word First = codes "first"
place_word Second = codes "second"
place_word NewHistory = codes "newhistory"

-- a line about the file at a place
abbrev pub file_line : List ℕ → Place → List ℕ
file_line what place = codes "file " ++ (what ++ (codes " " ++ (place_word place ++ codes "\n")))

-- the line of a fault of the history at a place
abbrev pub bad_line : Place → ℕ → ℕ → List ℕ
bad_line place line kind = place_word place
    ++ (codes " line " ++ (decimal line ++ (codes " kind " ++ (decimal kind ++ codes "\n"))))

-- the status of a refusal, and its line
abbrev pub refusal_status : Refusal → ℕ
refusal_status Words = 2
refusal_status (Bad place fault) = 6
refusal_status (Full signatures bytes) = 10
refusal_status (Long place) = 12
refusal_status (Absent place) = 16

abbrev pub refusal_line : Refusal → List ℕ
refusal_line Words = codes "words\n"
refusal_line (Bad place fault) = bad_line place fault.line (kind_number fault.kind)
refusal_line (Full signatures bytes) = codes "merged full "
    ++ (decimal signatures ++ (codes " " ++ (decimal bytes ++ codes "\n")))
refusal_line (Long place) = file_line (codes "long") place
refusal_line (Absent place) = file_line (codes "absent") place

-- the line after a failed call
abbrev pub fault_line : Place → List ℕ
fault_line place = file_line (codes "fault") place

-- the status of what stopped the program
abbrev pub stop_status : Stop → ℕ
stop_status (stops.Refused refusal) = refusal_status refusal
stop_status (stops.Fault place) = 7
stop_status stops.OutOfMemory = 9
