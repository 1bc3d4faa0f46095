-- A lock leaves its caller's number.
use Rattle.std.proofs.Common.{◌≡◌, ℕ}
use Rattle.std.specs.Prelude.{Result, Ok, Err, OnOk, OnErr}
use Rattle.dim_run.specs.Callers.{Known}
use Rattle.dim_mutex.specs.Standing.{HasTaken, HoldsSame}

pub number_kept : {A E : Type 0} (r : Result A E) (l : ℕ) (k k' : Known) (Q : Type 0) → OnOk r (HasTaken l k k') → OnErr r (HoldsSame k k' × Q) → k'.number ≡ k.number
number_kept (Ok a) l k k' Q t e = t.number
number_kept (Err x) l k k' Q t e = e.0.number
