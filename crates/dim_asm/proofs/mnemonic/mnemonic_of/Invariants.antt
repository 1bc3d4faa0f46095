use Rattle.std.proofs.Common.{◌≡◌, drop, map}
use Rattle.dim_asm.specs.Table.{mnemonic_of}
use Rattle.dim_asm.proofs.TableLemmas.{seen, look_up}
use Rattle.dim_asm.proofs.mnemonic.mnemonic_of.Given as goal

abbrev pub invariant-loop-row : goal.invariant-loop-row
invariant-loop-row l = look_up l.word (map seen (drop l.row-index l.row-items)) ≡ mnemonic_of l.word
