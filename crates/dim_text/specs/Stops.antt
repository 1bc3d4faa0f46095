-- Why the reading of a line stops.
use Rattle.std.specs.Prelude.{Option, Some, None}
use Rattle.dim_text.specs.declared.stop.Stop.{Stop}
use Rattle.dim_text.specs.declared.stop.Stop.TheVariants.{Bad, OutOfMemory}

-- the kind of the fault, if it is one
abbrev pub kind_of : {K : Type 0} → Stop K → Option K
kind_of OutOfMemory = None
kind_of (Bad kind) = Some kind
