-- The faults of a text.
use Rattle.std.specs.Prelude.{ℕ, Option, Some, None}
use Rattle.dim_asm.specs.declared.fault.AsmKind.{AsmKind}
use Rattle.dim_asm.specs.declared.fault.AsmKind.TheVariants.{Word, Number, Name, Double, Unknown, Shape, Limit}
use Rattle.dim_asm.specs.declared.fault.AsmFault.{AsmFault}
use Rattle.dim_asm.specs.declared.fault.AsmError.{AsmError}
use Rattle.dim_asm.specs.declared.fault.AsmError.TheVariants.{Bad, OutOfMemory}

abbrev pub kind_number : AsmKind → ℕ
kind_number Word = 1
kind_number Number = 2
kind_number Name = 3
kind_number Double = 4
kind_number Unknown = 5
kind_number Shape = 6
kind_number Limit = 7

-- a fault of this kind in this line
abbrev pub fault : ℕ → AsmKind → AsmFault
fault n kind = record { line = n; kind = kind }

-- the fault that an error tells
abbrev pub fault_of : AsmError → Option AsmFault
fault_of OutOfMemory = None
fault_of (Bad fault) = Some fault
