use Rattle.std.proofs.Common.{◌≡◌, ◌++◌, All, map, take}
use Rattle.std.specs.String.{string_bytes}
use Rattle.std.specs.List.{flat_map}
use Rattle.dim_asm.specs.Spelling.{function_lines, text_of}
use Rattle.dim_asm.specs.Printing.{names_in, named_function, HasWidth}
use Rattle.dim_asm.proofs.spelling.put_funcs.Given as goal

abbrev pub invariant-loop-func : goal.invariant-loop-func
invariant-loop-func l = record {
  text : string_bytes l.text ≡ string_bytes l.fn.text ++ text_of (flat_map function_lines (map (named_function (names_in l.program)) (take l.func-index l.func-items)));
  width : All (λ f. All HasWidth f.ops) (take l.func-index l.func-items);
}
