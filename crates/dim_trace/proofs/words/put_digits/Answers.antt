use Rattle.std.proofs.Common.{arith}
use Rattle.dim_trace.proofs.Numerals.{two_digits}
use Rattle.dim_trace.proofs.words.put_digits.Goals as goal

pub returns-then-n-lt100 : goal.returns-then-n-lt100
returns-then-n-lt100 c =
    two_digits c.put_digit-then-n-lt100-2.result _ _ _ c.args.n (omega arith) c.if-n-lt100.true c.in_ok-put_digit.ensures c.put_digit-then-n-lt100-2.ensures
