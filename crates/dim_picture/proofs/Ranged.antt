-- The shape at each place of a range is drawn.
use Rattle.std.proofs.Common.{arith}
use Rattle.std.specs.Prelude.{nat_lt}
use Rattle.std.proofs.lemmas.Bool.{and_from, lt-ltb}
use Rattle.dim_picture.specs.Ranges.{RangeLaw}

pub range_law : RangeLaw
range_law entries shapes f k p s there low high =
    let behind = (k.each p s there).end.behind in
    and_from (nat_lt p f.to) (nat_lt f.from s.end) (lt-ltb p f.to high) (lt-ltb f.from s.end (omega (arith, behind, low)))
