use Rattle.std.proofs.Common.{◌≡◌, ◌++◌, map, take}
use Rattle.std.specs.String.{string_bytes}
use Rattle.dim_history_file.specs.Value.{named_stack}
use Rattle.dim_inquiry.specs.Show.{shown_sig}
use Rattle.dim_inquiry.proofs.showing.put_signature.Given as goal

abbrev pub invariant-loop-stack : goal.invariant-loop-stack
invariant-loop-stack l = string_bytes l.text ≡ string_bytes l.fn.text ++ shown_sig l.fn.i (record { depth = l.sig.depth; stacks = map (named_stack l.names) (take l.stack-index l.stack-items); on = l.sig.on; yields = l.sig.yields })
