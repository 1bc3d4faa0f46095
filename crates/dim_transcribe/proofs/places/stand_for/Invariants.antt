use Rattle.std.proofs.Common.{◌≡◌, ℕ, ◌<◌}
use Rattle.std.specs.Prelude.{slice_get, Some}
use Rattle.dim_stack.specs.declared.Frame.{Frame}
use Rattle.dim_log.specs.declared.log.Spot.{Spot}
use Rattle.dim_transcribe.specs.Performs.{IsAt}
use Rattle.dim_transcribe.proofs.places.stand_for.Given as goal

abbrev pub invariant-loop-i : goal.invariant-loop-i
invariant-loop-i l = (j : ℕ) (frame : Frame) (spot : Spot) → j < l.i → slice_get l.frames j ≡ Some frame
    → slice_get l.spots j ≡ Some spot → IsAt l.places frame spot
