use Rattle.std.proofs.Common.{arith}
use Rattle.dim_text.proofs.Equal.{equal_words}
use Rattle.dim_text.proofs.words.are_equal.Goals as goal

pub returns : goal.returns
returns c = equal_words c.args.a.now c.args.b.now c.loop-i.i c.requires (omega (arith, c.loop-i-test.false, c.loop-i.auto.i-end)) c.loop-i.invariant
