use Rattle.std.proofs.Common.{◌≡◌, ◌∙◌, ap, sym, subst, inl, inr, arith, List}
use Rattle.std.specs.Prelude.{slice_get}
use Rattle.std.proofs.lemmas.Bool.{cases_lt}
use Rattle.std.proofs.lemmas.Option.{get_or_from_slice_get}
use Rattle.dim_stack.specs.declared.Frame.{Frame}
use Rattle.dim_stack.specs.Names.{IsNamedBy}
use Rattle.transfers.proofs.learning.is_spelled.Goals as goal

pub loop-i-preserved : goal.loop-i-preserved
loop-i-preserved c = record {
  named = λ k d lt. elim (cases_lt k c.loop-i.i) [
    | inl low ↦ c.loop-i.invariant.named k d low
    | inr le ↦
        let same : k ≡ c.loop-i.i = omega (arith, lt, le) in
        let is = get_or_from_slice_get c.args.sig.now.stacks k c.stack.result.now d (ap (slice_get c.args.sig.now.stacks) same ∙ c.stack.ensures) in
        subst (λ (s : List Frame). IsNamedBy c.args.names.now s) (sym is) (c.is_named.ensures c.if-not-is_named.false)
  ];
}
