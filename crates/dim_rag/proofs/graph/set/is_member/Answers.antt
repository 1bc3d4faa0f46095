use Rattle.std.proofs.Common.{◌∙◌, ◌^◌, ◌<◌, sym, ap, eqb, arith}
use Rattle.std.proofs.lemmas.Bool.{le-ltb}
use Rattle.std.proofs.lemmas.Nat.Bits.{bit_at_above}
use Rattle.dim_rag.proofs.graph.set.is_member.Goals as goal

pub returns-else-t-lt32 : goal.returns-else-t-lt32
returns-else-t-lt32 c =
    let small : c.args.set < 2 ^ 32 = omega arith in
    le-ltb c.args.t 32 (omega arith) ∙ sym (ap (λ n. eqb n 1) (bit_at_above c.args.set 32 c.args.t small (omega arith)))
