use Rattle.std.proofs.Common.{◌≡◌, ◌≤◌, take}
use Rattle.dim_rag.specs.History.{past, count}
use Rattle.run_tests.proofs.fake.times.Given as goal

-- how often it is held after the entries so far
abbrev pub invariant-loop-e : goal.invariant-loop-e
invariant-loop-e l = record {
  is : l.times ≡ count l.t.0 l.lock.0 (past (take l.e-index l.own));
  few : l.times ≤ l.e-index;
}
