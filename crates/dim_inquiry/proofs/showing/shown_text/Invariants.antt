use Rattle.std.proofs.Common.{◌≡◌, take}
use Rattle.std.specs.String.{string_bytes}
use Rattle.dim_history_file.specs.Value.{named}
use Rattle.dim_inquiry.specs.Report.{by_number}
use Rattle.dim_inquiry.specs.Show.{shown_sig}
use Rattle.dim_inquiry.proofs.showing.shown_text.Given as goal

abbrev pub invariant-loop-i : goal.invariant-loop-i
invariant-loop-i l = string_bytes l.text ≡ by_number shown_sig 0 (named l.h.names (take l.i l.h.catalogue.sigs))
