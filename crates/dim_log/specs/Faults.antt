-- The faults of a text.
use Rattle.std.specs.Prelude.{ℕ, Option, Some, None, Result, Ok, Err}
use Rattle.dim_log.specs.declared.log.LogFaultKind.{LogFaultKind}
use Rattle.dim_log.specs.declared.log.LogFaultKind.TheVariants.{Short, Operation, Took, Frame, Long}
use Rattle.dim_log.specs.declared.log.LogFault.{LogFault}
use Rattle.dim_log.specs.declared.fault.LogError.{LogError}
use Rattle.dim_log.specs.declared.fault.LogError.TheVariants.{Bad, OutOfMemory}
use Rattle.dim_text.specs.declared.stop.Stop.{Stop}
use Rattle.dim_text.specs.declared.stop.Stop.TheVariants as stop

abbrev pub kind_number : LogFaultKind → ℕ
kind_number Short = 1
kind_number Operation = 2
kind_number Took = 3
kind_number Frame = 4
kind_number Long = 5

-- a fault of this kind in this line
abbrev pub fault : ℕ → LogFaultKind → LogFault
fault n kind = record { line = n; kind = kind }

-- the fault that an error tells
abbrev pub fault_of : LogError → Option LogFault
fault_of OutOfMemory = None
fault_of (Bad fault) = Some fault

-- what was read, or the error of the line with this number
abbrev pub at_line : {A : Type 0} → ℕ → Result A (Stop LogFaultKind) → Result A LogError
at_line n (Ok x) = Ok x
at_line n (Err stop.OutOfMemory) = Err OutOfMemory
at_line n (Err (stop.Bad kind)) = Err (Bad (fault n kind))
