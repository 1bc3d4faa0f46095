use Rattle.dim_predict.specs.Numbered.{IsNumberedTo}
use Rattle.dim_predict.proofs.numbers.Numbers.of.Given as goal

abbrev pub invariant-loop-i : goal.invariant-loop-i
invariant-loop-i l = IsNumberedTo l.keys l.i l.firsts l.list.items
