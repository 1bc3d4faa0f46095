use Rattle.std.proofs.Common.{◌≡◌, ◌≤◌, ◌+◌}
use Rattle.dim_vm.specs.Fitting.{FitsMachine}
use Rattle.dim_vm.specs.Moves.{Moves}
use Rattle.dim_vm.specs.Slice.{place}
use Rattle.dim_vm.proofs.machine.Machine.slice.Given as goal

abbrev pub invariant-loop-moves : goal.invariant-loop-moves
invariant-loop-moves g l = record {
  made : Moves l.program (place l.fn.self (g.D.Door.seen l.fn.door)) l.moves (place l.self (g.D.Door.seen l.door));
  fits : FitsMachine l.program l.self (g.D.Door.seen l.door).own;
  fuel : l.self.fuel ≡ l.fn.self.fuel;
  thread : (g.D.Door.seen l.door).thread ≡ l.self.thread;
  same : (g.D.Door.seen l.door).thread ≡ (g.D.Door.seen l.fn.door).thread;
  locks : (g.D.Door.seen l.door).locks ≡ (g.D.Door.seen l.fn.door).locks;
  left : (g.D.Door.seen l.fn.door).left ≤ (g.D.Door.seen l.door).left + l.moves;
  stops : (g.D.Door.seen l.door).stops ≡ (g.D.Door.seen l.fn.door).stops;
  reaches : g.D.Door.reaches l.fn.door l.door;
}
