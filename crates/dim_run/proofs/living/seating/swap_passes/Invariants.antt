use Rattle.std.proofs.Common.{◌≡◌, length, map, take, drop}
use Rattle.dim_run.proofs.living.seating.swap_passes.Given as goal

abbrev pub invariant-loop-i : goal.invariant-loop-i
invariant-loop-i l = record {
  long : (length l.seats ≡ length l.fn.seats) × (length l.passes ≡ length l.fn.passes);
  machines : map (λ s. s.machine) l.seats ≡ map (λ s. s.machine) l.fn.seats;
  into : take l.i (map (λ s. s.pass) l.seats) ≡ take l.i l.fn.passes;
  left : drop l.i (map (λ s. s.pass) l.seats) ≡ drop l.i (map (λ s. s.pass) l.fn.seats);
  out : take l.i l.passes ≡ take l.i (map (λ s. s.pass) l.fn.seats);
  behind : drop l.i l.passes ≡ drop l.i l.fn.passes;
}
