use Rattle.std.proofs.Common.{◌≡◌, ◌++◌, take}
use Rattle.std.specs.String.{string_bytes}
use Rattle.dim_commands.specs.Report.{thread_lines}
use Rattle.dim_commands.proofs.ends.put_threads.Given as goal

abbrev pub invariant-loop-t : goal.invariant-loop-t
invariant-loop-t l = string_bytes l.text ≡ string_bytes l.fn.text ++ thread_lines l.program (take l.t l.ends)
