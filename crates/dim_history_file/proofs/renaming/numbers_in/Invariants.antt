use Rattle.std.proofs.Common.{take}
use Rattle.dim_history_file.specs.Value.{AreNumbersIn}
use Rattle.dim_history_file.proofs.renaming.numbers_in.Given as goal

abbrev pub invariant-loop-n : goal.invariant-loop-n
invariant-loop-n l = AreNumbersIn l.to (take l.n l.from) l.numbers.items
