use Rattle.std.proofs.Common.{◌≡◌, ◌∷◌, [], length, rules, arith}
use Rattle.dim_history_file.specs.Spelling.{EndLine, text_of}
use Rattle.dim_merge.proofs.Sizing.{end_few}
use Rattle.dim_merge.proofs.size.end_bytes.Goals as goal

pub returns-clause-few : goal.returns-clause-few
returns-clause-few c =
    let bytes : c.len.result ≡ length (text_of (EndLine c.args.count ∷ [])) = search rules in
    omega (arith, bytes, end_few c.args.count c.ranges.count.fits)
