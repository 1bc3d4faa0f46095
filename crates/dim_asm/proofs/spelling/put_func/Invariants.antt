use Rattle.std.proofs.Common.{◌≡◌, ◌++◌, All, take}
use Rattle.std.specs.String.{string_bytes}
use Rattle.dim_asm.specs.Spelling.{open_function, text_of}
use Rattle.dim_asm.specs.Printing.{names_in, named_function, HasWidth}
use Rattle.dim_asm.proofs.spelling.put_func.Given as goal

abbrev pub invariant-loop-op : goal.invariant-loop-op
invariant-loop-op l = record {
  text : string_bytes l.text ≡ string_bytes l.fn.text ++ text_of (open_function (named_function (names_in l.program) (record l.func { ops = take l.op-index l.op-items })));
  width : All HasWidth (take l.op-index l.op-items);
}
