use Rattle.std.proofs.Common.{◌≡◌, ℕ, ◌<◌, ◌||◌, length, take}
use Rattle.std.specs.List.{list_any}
use Rattle.dim_predict.specs.Numbered.{is_at, pair_in}
use Rattle.dim_predict.specs.Pairs.{has_come, pair_slot}
use Rattle.dim_predict.proofs.pairs.see_known.Given as goal

abbrev pub invariant-loop-i : goal.invariant-loop-i
invariant-loop-i l = record {
  room : length l.seen.table.items ≡ length l.initial.seen.table.items;
  seen : (a b : ℕ) → a < 4096 → b < 4096
      → has_come l.seen.table.items a b ≡ (list_any (λ s. is_at (pair_slot a b) (pair_in l.numbers.firsts s.stacks)) (take l.i l.catalogue.sigs) || has_come l.initial.seen.table.items a b);
}
