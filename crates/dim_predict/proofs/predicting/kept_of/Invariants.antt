use Rattle.std.proofs.Common.{◌≡◌, take}
use Rattle.dim_predict.proofs.predicting.kept_of.Given as goal

-- the entries so far
abbrev pub invariant-loop-entry : goal.invariant-loop-entry
invariant-loop-entry l = l.kept.entries ≡ take l.entry-index l.entries
