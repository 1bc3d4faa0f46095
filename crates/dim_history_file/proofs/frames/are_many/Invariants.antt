use Rattle.std.proofs.Common.{◌≡◌, ◌≤◌, ◌+◌, length}
use Rattle.dim_history_file.proofs.frames.are_many.Given as goal

abbrev pub invariant-loop-words : goal.invariant-loop-words
invariant-loop-words l = record { few : l.count ≤ 32; size : length l.fn.words ≡ l.count + length l.words }

abbrev pub decreases-loop-words : goal.decreases-loop-words
decreases-loop-words l = length l.words
