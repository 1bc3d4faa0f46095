use Rattle.std.proofs.Common.{◌≡◌, take}
use Rattle.std.specs.String.{string_bytes}
use Rattle.dim_history_file.specs.declared.version.Version.TheVariants.{Two}
use Rattle.dim_history_file.specs.Value.{named}
use Rattle.dim_history_file.specs.Spelling.{lines_before_end, text_of}
use Rattle.dim_history_file.specs.Grammar.{AreSized}
use Rattle.dim_history_file.proofs.writing.text_of_history.Given as goal

abbrev pub invariant-loop-i : goal.invariant-loop-i
invariant-loop-i l = record {
  text : string_bytes l.text ≡ text_of (lines_before_end Two (named l.h.names (take l.i l.h.catalogue.sigs)));
  sized : AreSized (take l.i l.h.catalogue.sigs);
}
