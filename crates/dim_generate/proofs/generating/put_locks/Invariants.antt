use Rattle.std.proofs.Common.{◌≡◌, ◌++◌, map}
use Rattle.std.specs.String.{string_bytes}
use Rattle.dim_asm.specs.Source.{LockLine}
use Rattle.dim_asm.specs.Spelling.{text_of}
use Rattle.dim_generate.specs.Generated.{from, lock_name}
use Rattle.dim_generate.proofs.generating.put_locks.Given as goal

abbrev pub invariant-loop-number : goal.invariant-loop-number
invariant-loop-number l = string_bytes l.text ≡ string_bytes l.fn.text ++ text_of (map (λ name. LockLine name) (map lock_name (from 0 l.number)))
