-- The faults of a text.
use Rattle.std.specs.Prelude.{ℕ, Option, Some, None, Result, Ok, Err}
use Rattle.dim_history_file.specs.declared.fault.FileKind.{FileKind}
use Rattle.dim_history_file.specs.declared.fault.FileKind.TheVariants.{Head, Line, Name, Number, Unsorted, Double, Count, Rest, Limit}
use Rattle.dim_history_file.specs.declared.fault.FileFault.{FileFault}
use Rattle.dim_history_file.specs.declared.fault.ReadFault.{ReadFault}
use Rattle.dim_history_file.specs.declared.fault.ReadFault.TheVariants.{Bad, OutOfMemory}
use Rattle.dim_text.specs.declared.stop.Stop.{Stop}
use Rattle.dim_text.specs.declared.stop.Stop.TheVariants as stop

abbrev pub kind_number : FileKind → ℕ
kind_number Head = 1
kind_number Line = 2
kind_number Name = 3
kind_number Number = 4
kind_number Unsorted = 5
kind_number Double = 6
kind_number Count = 7
kind_number Rest = 8
kind_number Limit = 9

-- a fault of this kind in this line
abbrev pub fault : ℕ → FileKind → FileFault
fault n kind = record { line = n; kind = kind }

-- the fault that an error tells
abbrev pub fault_of : ReadFault → Option FileFault
fault_of OutOfMemory = None
fault_of (Bad fault) = Some fault

-- what was read, or the error of the line with this number
abbrev pub at_line : {A : Type 0} → ℕ → Result A (Stop FileKind) → Result A ReadFault
at_line n (Ok x) = Ok x
at_line n (Err stop.OutOfMemory) = Err OutOfMemory
at_line n (Err (stop.Bad kind)) = Err (Bad (fault n kind))
