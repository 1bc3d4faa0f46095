use Rattle.std.proofs.Common.{◌≡◌, ◌++◌, map, take}
use Rattle.std.specs.String.{string_bytes}
use Rattle.dim_asm.specs.Source.{LockLine}
use Rattle.dim_asm.specs.Spelling.{text_of}
use Rattle.dim_asm.proofs.spelling.put_locks.Given as goal

abbrev pub invariant-loop-l : goal.invariant-loop-l
invariant-loop-l l = string_bytes l.text ≡ string_bytes l.fn.text ++ text_of (map (λ name. LockLine name) (take l.l l.program.locks))
