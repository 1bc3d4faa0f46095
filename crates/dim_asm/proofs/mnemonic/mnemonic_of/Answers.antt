use Rattle.std.proofs.Common.{refl, sym, ◌∙◌}
use Rattle.dim_asm.specs.Table.{mnemonic_of}
use Rattle.dim_asm.proofs.TableLemmas.{skipped}
use Rattle.dim_asm.proofs.mnemonic.mnemonic_of.Goals as goal

pub loop-row-init : goal.loop-row-init
unfolding mnemonic_of
loop-row-init c = refl

pub loop-row-preserved : goal.loop-row-preserved
loop-row-preserved c = skipped c.args.word.now _ c.loop-row.row-index _ c.loop-row-test.true (sym c.is_word.ensures ∙ c.if-is_word.false) ∙ c.loop-row.invariant
