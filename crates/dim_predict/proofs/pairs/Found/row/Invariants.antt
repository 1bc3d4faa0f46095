use Rattle.std.proofs.Common.{◌≡◌, ◌+◌, ◌-◌, List, ◌++◌, length, get_or}
use Rattle.dim_signature.specs.Sig.{Sig}
use Rattle.dim_predict.specs.declared.key.Key.{Key}
use Rattle.dim_predict.specs.Pairs.{IsSearched}
use Rattle.dim_predict.proofs.Repeats.{Stacks}
use Rattle.dim_predict.proofs.Rowing.{IsAt, rest}
use Rattle.dim_predict.proofs.pairs.Found.row.Given as goal

abbrev pub invariant-loop-j : goal.invariant-loop-j
invariant-loop-j l = record {
  numbers : l.self.numbers.items ≡ l.initial.self.numbers.items;
  room : length l.self.seen.table.items ≡ length l.initial.self.seen.table.items;
  at : (d : Key) → IsAt l.keys (get_or l.keys l.i d) l.i l.j;
  step : (loaded : List Sig) (come : List Stacks) (d : Key)
      → IsSearched loaded l.keys l.initial.self.numbers.items come l.initial.self.seen.table.items l.initial.self.pairs.items
      → (done : List Stacks) × IsSearched loaded l.keys l.initial.self.numbers.items (come ++ done) l.self.seen.table.items l.self.pairs.items
      × (done ++ rest l.keys (get_or l.keys l.i d) l.j ≡ rest l.keys (get_or l.keys l.i d) (l.i + 1));
}

abbrev pub decreases-loop-j : goal.decreases-loop-j
decreases-loop-j l = length l.keys - l.j
