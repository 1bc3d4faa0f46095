use Rattle.std.proofs.Common.{◌≡◌, take}
use Rattle.dim_asm.specs.Code.{func_names}
use Rattle.dim_asm.proofs.binding.words_of.Given as goal

abbrev pub invariant-loop-func : goal.invariant-loop-func
invariant-loop-func l = l.words.items ≡ func_names (take l.func-index l.funcs)
