-- What a slice does.
use Rattle.std.specs.Prelude.{◌≡◌, ℕ, ◌<◌, ◌≤◌, ◌⊎◌, true}
use Rattle.dim_asm.specs.Code.{Code}
use Rattle.dim_vm.specs.Configuration.{Configuration, is_ended}
use Rattle.dim_vm.specs.Door.{Seen, WasStopped}
use Rattle.dim_vm.specs.Moves.{Whereabouts, Moves, Finish}

-- a machine that is configured so, at a door that has seen this
abbrev pub place : Configuration → Seen → Whereabouts
place c z = record { at = c; own = z.own }

-- n moves lead from a to b, and no End: there are q of them, or the thread had ended, or the slice
-- was stopped
pub record HasHalted (p : Code) (a : Whereabouts) (q n : ℕ) (b : Whereabouts) (stopped : Type 0) : Type 0 where
  pub moves : Moves p a n b
  pub few : n ≤ q
  pub why : (n ≡ q) ⊎ (is_ended b.at.state ≡ true) ⊎ stopped

-- n moves, fewer than q, lead from a to where the thread ends, and its End to b
pub record HasFinished (p : Code) (a : Whereabouts) (q n : ℕ) (b : Whereabouts) (woken : Type 0) : Type 0 where
  pub last : Whereabouts
  pub moves : Moves p a n last
  pub few : n < q
  pub finish : Finish p woken last b

-- a slice of at most q moves made n of them and led a machine at its door from c and z to c' and
-- z'. `stopped` and `woken` are the door's, after it
abbrev pub IsSlice : Code → Configuration → Seen → ℕ → ℕ → Configuration → Seen → Type 0 → Type 0
    → Type 0
IsSlice p c z q n c' z' stopped woken =
    HasHalted p (place c z) q n (place c' z') (WasStopped z z' × stopped)
    ⊎ HasFinished p (place c z) q n (place c' z') woken
