use Rattle.std.proofs.Common.{◌≡◌, ◌-◌, ◌<◌, ◌≤◌, ℕ, length}
use Rattle.std.specs.declared.cmp.Ordering.TheVariants.{Less, Greater}
use Rattle.dim_signature.specs.Order.{stacks_at, stacks_cmp}
use Rattle.dim_signature.proofs.order.search_all.Given as goal

-- the stacks below are lesser, and those from the upper end on are greater
abbrev pub invariant-loop-low : goal.invariant-loop-low
invariant-loop-low l = record {
  ordered : l.low ≤ l.high;
  within : l.high ≤ length l.order;
  below : (k : ℕ) → k < l.low → stacks_cmp (stacks_at l.list l.order k) l.stacks ≡ Less;
  above : (k : ℕ) → l.high ≤ k → k < length l.order → stacks_cmp (stacks_at l.list l.order k) l.stacks ≡ Greater;
}

abbrev pub decreases-loop-low : goal.decreases-loop-low
decreases-loop-low l = l.high - l.low
