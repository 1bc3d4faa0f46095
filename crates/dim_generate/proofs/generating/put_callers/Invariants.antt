use Rattle.std.proofs.Common.{◌≡◌, ◌++◌, ◌*◌, map}
use Rattle.std.specs.String.{string_bytes}
use Rattle.std.specs.List.{flat_map}
use Rattle.dim_asm.specs.Spelling.{function_lines, text_of}
use Rattle.dim_schedule.specs.Drawn.{after}
use Rattle.dim_generate.specs.Generated.{from}
use Rattle.dim_generate.specs.Drafted.{caller_of}
use Rattle.dim_generate.proofs.generating.put_callers.Given as goal

abbrev pub invariant-loop-number : goal.invariant-loop-number
invariant-loop-number l = record {
  lines : string_bytes l.text ≡ string_bytes l.fn.text ++ text_of (flat_map function_lines (map (caller_of l.fn.words) (from 0 l.number)));
  words : l.words ≡ after (4 * l.number) l.fn.words;
}
