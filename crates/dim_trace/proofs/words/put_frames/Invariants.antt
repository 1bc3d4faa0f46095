use Rattle.std.proofs.Common.{◌≡◌, ◌++◌, take}
use Rattle.dim_trace.specs.Text.{spaced, stack_words}
use Rattle.dim_trace.proofs.words.put_frames.Given as goal

abbrev pub invariant-loop-frame : goal.invariant-loop-frame
invariant-loop-frame l = l.text ≡ l.fn.text ++ spaced (stack_words l.names (take l.frame-index l.stack))
