use Rattle.dim_trace.proofs.Numerals.{one_digit}
use Rattle.dim_trace.proofs.words.put_digit.Goals as goal

pub returns : goal.returns
returns c = one_digit c.put_byte.result _ _ c.args.n c.requires c.put_byte.ensures
