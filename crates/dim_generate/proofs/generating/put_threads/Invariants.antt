use Rattle.std.proofs.Common.{◌≡◌, ◌++◌, map}
use Rattle.std.specs.String.{string_bytes}
use Rattle.dim_asm.specs.Printing.{thread_line}
use Rattle.dim_asm.specs.Spelling.{text_of}
use Rattle.dim_generate.specs.Generated.{from}
use Rattle.dim_generate.specs.Drafted.{started}
use Rattle.dim_generate.proofs.generating.put_threads.Given as goal

abbrev pub invariant-loop-number : goal.invariant-loop-number
invariant-loop-number l = string_bytes l.text ≡ string_bytes l.fn.text ++ text_of (map thread_line (map started (from 0 l.number)))
