use Rattle.std.proofs.Common.{◌≡◌, ◌++◌, All, map, take, FitsSigned}
use Rattle.std.specs.String.{string_bytes}
use Rattle.std.specs.Int.{w64}
use Rattle.dim_asm.specs.Spelling.{text_of}
use Rattle.dim_asm.specs.Printing.{names_in, named_start, thread_line}
use Rattle.dim_asm.proofs.spelling.put_threads.Given as goal

abbrev pub invariant-loop-start : goal.invariant-loop-start
invariant-loop-start l = record {
  text : string_bytes l.text ≡ string_bytes l.fn.text ++ text_of (map thread_line (map (named_start (names_in l.program)) (take l.start-index l.start-items)));
  width : All (λ s. FitsSigned w64 s.argument) (take l.start-index l.start-items);
}
