-- Seats whose machines take a slice at a gate.
use Rattle.std.specs.Prelude.{◌≡◌, ℕ, ◌+◌, ◌<◌, ◌≤◌, List, length, slice_index_or}
use Rattle.atomic_table.specs.Seated.{TableId}
use Rattle.dim_asm.specs.Code.{Code}
use Rattle.dim_gate.specs.Gate.{Gate}
use Rattle.dim_turn.specs.declared.view.Start.{Start}
use Rattle.dim_run.specs.declared.living.seat.Seat.{Seat}
use Rattle.dim_run.specs.Gates.{Owns, known, opening_of}
use Rattle.dim_run.specs.Seats.{IsSeated, HasWorked}

-- A machine in its seat may take a slice of at most q moves at a gate: the pass is one of the
-- gate's and that of the machine's thread, and an entry may be made by it at each move and at the
-- end.
pub record MayWork (p : Code) (table : TableId) (start : Start Gate) (q : ℕ) (s : Seat) : Type 0 where
  pub owned : Owns table start s.pass.seat
  pub seated : IsSeated p (opening_of start) s.machine (known s.pass)
  pub left : q + 1 ≤ s.pass.left

-- such a slice led the seat from s to s'
pub record SeatWorked (p : Code) (table : TableId) (start : Start Gate) (q : ℕ) (s s' : Seat) : Type 0 where
  pub owned : Owns table start s'.pass.seat
  pub worked : HasWorked p (opening_of start) q s.machine s'.machine (known s.pass) (known s'.pass)

-- each seat of a list was led so
pub record SeatsWorked (p : Code) (table : TableId) (start : Start Gate) (q : ℕ) (ss ss' : List Seat) : Type 0 where
  pub same : length ss' ≡ length ss
  pub each : (i : ℕ) (d : Seat) → i < length ss → SeatWorked p table start q (slice_index_or ss i d) (slice_index_or ss' i d)
