use Rattle.std.proofs.Common.{◌≡◌, ℕ, ◌<◌}
use Rattle.std.specs.Prelude.{slice_get, Some}
use Rattle.dim_transcribe.specs.declared.transcript.StandIn.{StandIn}
use Rattle.dim_transcribe.specs.Performs.{key_of}
use Rattle.dim_transcribe.proofs.places.are_single.Given as goal

abbrev pub invariant-loop-place : goal.invariant-loop-place
invariant-loop-place l = record {
  below : (i : ℕ) (a : StandIn) → i < l.place-index → slice_get l.places i ≡ Some a → key_of a.frame < l.least;
  rising : (i j : ℕ) (a b : StandIn) → i < j → j < l.place-index → slice_get l.places i ≡ Some a → slice_get l.places j ≡ Some b → key_of a.frame < key_of b.frame;
}
