use Rattle.std.proofs.Common.{take}
use Rattle.dim_transcribe.proofs.OneMore.{HasMade}
use Rattle.dim_transcribe.proofs.performing.performs_chain.Given as goal

abbrev pub invariant-loop-i : goal.invariant-loop-i
invariant-loop-i l = HasMade l.program l.key l.log l.t (take l.i l.operations) l.machine l.holds
