use Rattle.std.proofs.Common.{◌≡◌, take}
use Rattle.dim_trace.proofs.trace.KeptTrace.of.Given as goal

-- the entries so far
abbrev pub invariant-loop-entry : goal.invariant-loop-entry
invariant-loop-entry l = l.kept ≡ record { fuel = l.trace.fuel; depth = l.trace.depth; entries = take l.entry-index l.trace.entries.items }
