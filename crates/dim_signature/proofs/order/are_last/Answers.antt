use Rattle.std.proofs.Common.{◌≡◌, true, refl, sym, ◌∙◌, arith}
use Rattle.std.specs.Ordering.{is_lt}
use Rattle.std.specs.declared.cmp.Ordering.{Ordering}
use Rattle.std.specs.declared.cmp.Ordering.TheVariants.{Less, Equal, Greater}
use Rattle.dim_signature.proofs.Placed.{below_more}
use Rattle.dim_signature.proofs.order.are_last.Goals as goal

less : (o : Ordering) → is_lt o ≡ true → o ≡ Less
less Less e = refl
less Equal e = cc (e)
less Greater e = cc (e)

pub returns-in_default : goal.returns-in_default
returns-in_default c is =
    let below = below_more c.args.list.now c.args.order.now c.requires c.args.stacks.now _ (omega arith) (sym c.compare_at.ensures ∙ less c.compare_at.result (sym c.is_lt.ensures ∙ is)) in
    record {
      within = omega arith;
      below = λ k low. below k (omega arith);
      above = λ k low high. absurd (omega arith);
    }
