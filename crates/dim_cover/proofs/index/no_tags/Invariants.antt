use Rattle.std.proofs.Common.{◌≡◌, replicate}
use Rattle.dim_cover.proofs.index.no_tags.Given as goal

-- the tags so far
abbrev pub invariant-loop : goal.invariant-loop
invariant-loop l = l.tags.items ≡ replicate l.counter 0
