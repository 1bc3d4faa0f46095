use Rattle.std.proofs.Common.{ap, w32, eqb, arith, ◌≢◌, ◌*◌, ◌^◌, ◌%◌, sym, ◌∙◌}
use Rattle.std.specs.Prelude.{bit_and}
use Rattle.std.proofs.lemmas.Nat.{and_le_l}
use Rattle.std.proofs.lemmas.Bool.{both_ways}
use Rattle.std.proofs.lemmas.Nat.Bits.{bit_at_clear_same, bit_at_clear_other}
use Rattle.std.specs.Int.{bit_not}
use Rattle.dim_rag.specs.Stuck.{is_member}
use Rattle.dim_rag.proofs.graph.set.without.Goals as goal

pub returns-clause-gone : goal.returns-clause-gone
returns-clause-gone c = ap (λ n. eqb n 1) (bit_at_clear_same w32 c.args.set c.args.t c.requires)

pub returns-clause-others : goal.returns-clause-others
returns-clause-others c = λ u lt ne. ap (λ n. eqb n 1) (bit_at_clear_other w32 c.args.set c.args.t c.requires u lt ne)

pub returns-clause-less : goal.returns-clause-less
returns-clause-less c = λ q.
    let le = and_le_l c.args.set (bit_not w32 (1 * 2 ^ c.args.t % 4294967296)) in
    let ne : bit_and c.args.set (bit_not w32 (1 * 2 ^ c.args.t % 4294967296)) ≢ c.args.set =
    λ e. both_ways (is_member c.args.set c.args.t) (sym (ap (λ s. is_member s c.args.t) e) ∙ ap (λ n. eqb n 1) (bit_at_clear_same w32 c.args.set c.args.t c.requires)) q in
    omega (arith, le, ne)
