-- What stops the program before its report.
use Rattle.std.specs.Prelude.{Option, Some, None}
use Rattle.dim_merge.specs.declared.merging.MergeFault.{MergeFault}
use Rattle.dim_merge.specs.declared.merging.MergeFault.TheVariants as merges
use Rattle.dim_merge.specs.declared.stop.Refusal.{Refusal}
use Rattle.dim_merge.specs.declared.stop.Refusal.TheVariants as refusals
use Rattle.dim_merge.specs.declared.stop.Stop.{Stop}
use Rattle.dim_merge.specs.declared.stop.Stop.TheVariants as stops

-- what two histories that don't become one stop
abbrev pub stop_of : MergeFault → Stop
stop_of (merges.Full signatures bytes) = stops.Refused (refusals.Full signatures bytes)
stop_of merges.OutOfMemory = stops.OutOfMemory

-- the refusal that a stop tells
abbrev pub refusal_of : Stop → Option Refusal
refusal_of (stops.Refused refusal) = Some refusal
refusal_of (stops.Fault place) = None
refusal_of stops.OutOfMemory = None

-- no file call failed
abbrev pub IsNoFault : Stop → Type 0
IsNoFault (stops.Refused refusal) = Unit {0}
IsNoFault (stops.Fault place) = ⊥
IsNoFault stops.OutOfMemory = Unit {0}
