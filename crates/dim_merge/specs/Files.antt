-- What the program's calls leave of files and sinks.
use Rattle.std.specs.Prelude.{◌≡◌, ℕ, ◌≤◌, Option, Some, Result, Err}
use Rattle.dim_base.specs.Causes.{Rose}
use Rattle.dim_base.specs.Files.{Named}
use Rattle.dim_base.specs.declared.files.Fetch.{Fetch}
use Rattle.dim_base.specs.declared.files.Fetch.TheVariants as fetch
use Rattle.dim_merge.specs.declared.stop.Place.{Place}
use Rattle.dim_merge.specs.declared.stop.Refusal.TheVariants as refusals
use Rattle.dim_merge.specs.declared.stop.Stop.{Stop}
use Rattle.dim_merge.specs.declared.stop.Stop.TheVariants as stops

-- where the files tell what they hold
abbrev pub WhereTold : Option Named → (Named → Type 0) → Type 0
WhereTold told P = (files : Named) → told ≡ Some files → P files

-- a fault is told only where the count of faults rose
abbrev pub StopCause : {X : Type 0} → ℕ → ℕ → Result X Stop → Type 0
StopCause before now (Err (stops.Fault place)) = Rose before now
StopCause before now r = before ≤ now

-- why a fetch gave no bytes
abbrev pub fetch_stop : Place → Fetch → Stop
fetch_stop place fetch.Failed = stops.Fault place
fetch_stop place (fetch.Long limit) = stops.Refused (refusals.Long place)
fetch_stop place fetch.Absent = stops.Refused (refusals.Absent place)
fetch_stop place fetch.OutOfMemory = stops.OutOfMemory
