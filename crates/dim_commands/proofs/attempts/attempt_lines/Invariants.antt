use Rattle.std.proofs.Common.{◌≡◌, take}
use Rattle.std.specs.String.{string_bytes}
use Rattle.dim_commands.specs.Immunize.{attempt_lines}
use Rattle.dim_commands.proofs.attempts.attempt_lines.Given as goal

abbrev pub invariant-loop-i : goal.invariant-loop-i
invariant-loop-i l = string_bytes l.text ≡ attempt_lines (take l.i l.attempts)
