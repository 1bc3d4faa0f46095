use Rattle.std.proofs.Common.{◌≡◌, take}
use Rattle.std.specs.String.{string_bytes}
use Rattle.dim_inquiry.specs.Report.{by_number}
use Rattle.dim_commands.specs.Depths.{depth_line}
use Rattle.dim_commands.proofs.TellingLemmas.{pairs}
use Rattle.dim_commands.proofs.telling.depths_text.Given as goal

-- the lines of the signatures before this one
abbrev pub invariant-loop-i : goal.invariant-loop-i
invariant-loop-i l = string_bytes l.text ≡ by_number depth_line 0 (take l.i (pairs l.loaded.sigs l.least))
