use Rattle.std.proofs.Common.{◌≡◌, ◌++◌, All, map, take}
use Rattle.std.specs.String.{string_bytes}
use Rattle.dim_history_file.specs.declared.version.Version.TheVariants.{Two}
use Rattle.dim_history_file.specs.Value.{named_stack}
use Rattle.dim_history_file.specs.Signing.{line_for}
use Rattle.dim_history_file.specs.Spelling.{open_lines, text_of}
use Rattle.dim_history_file.specs.Grammar.{IsSized}
use Rattle.dim_history_file.proofs.writing.put_signature.Given as goal

abbrev pub invariant-loop-stack : goal.invariant-loop-stack
invariant-loop-stack l = record {
  text : string_bytes l.text ≡ string_bytes l.fn.text ++ text_of (open_lines Two (line_for l.sig) (map (named_stack l.names) (take l.stack-index l.stack-items)));
  sized : All IsSized (take l.stack-index l.stack-items);
}
