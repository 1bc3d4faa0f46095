use Rattle.std.proofs.Common.{◌≡◌, ◌+◌, ◌≤◌, length, take, map}
use Rattle.dim_predict.specs.Candidates.{different}
use Rattle.dim_predict.specs.Keys.{IsRoll, content_of}
use Rattle.dim_predict.specs.Nestings.{contents}
use Rattle.dim_predict.proofs.gathering.gather.Given as goal

abbrev pub invariant-loop-place : goal.invariant-loop-place
invariant-loop-place l = record {
  threads : l.gathering.graph.threads ≡ l.threads;
  locks : l.gathering.graph.locks ≡ l.locks;
  entries : l.gathering.graph.entries ≡ take l.place l.trace.entries;
  room : length l.trace.entries ≤ l.place + l.gathering.graph.spare;
  roll : IsRoll l.gathering.roll.list.items l.gathering.roll.set;
  noted : map content_of l.gathering.roll.list.items ≡ different (contents (take l.place l.trace.entries));
}
