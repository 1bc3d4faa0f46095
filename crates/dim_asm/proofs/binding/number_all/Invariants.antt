use Rattle.std.proofs.Common.{◌≡◌, map, take, drop}
use Rattle.dim_asm.specs.Bound.{numbered}
use Rattle.dim_asm.proofs.binding.number_all.Given as goal

abbrev pub invariant-loop-func : goal.invariant-loop-func
invariant-loop-func l = record {
  done : take l.func-index l.funcs ≡ map (numbered l.names) (take l.func-index l.fn.funcs);
  left : drop l.func-index l.funcs ≡ drop l.func-index l.fn.funcs;
}
