use Rattle.std.proofs.Common.{arith}
use Rattle.dim_trace.proofs.Numerals.{digit_written, two_written}
use Rattle.dim_trace.proofs.draft.fill_digits.Goals as goal

pub returns-then-n-lt10-clause-bytes : goal.returns-then-n-lt10-clause-bytes
returns-then-n-lt10-clause-bytes c = digit_written _ _ c.args.n c.if-n-lt10.true c.fill_byte.ensures.bytes

pub returns-clause-bytes : goal.returns-clause-bytes
returns-clause-bytes c = two_written _ _ _ c.args.n (omega (arith, c.if-n-lt10.false)) c.requires.few c.fill_byte-at.ensures.bytes c.fill_byte-2.ensures.bytes
