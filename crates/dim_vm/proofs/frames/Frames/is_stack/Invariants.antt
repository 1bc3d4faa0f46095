use Rattle.std.proofs.Common.{◌≡◌, take}
use Rattle.dim_vm.specs.Frames.{stack_of}
use Rattle.dim_vm.proofs.frames.Frames.is_stack.Given as goal

abbrev pub invariant-loop-i : goal.invariant-loop-i
invariant-loop-i l = take l.i l.stack ≡ take l.i (stack_of l.program l.self)
