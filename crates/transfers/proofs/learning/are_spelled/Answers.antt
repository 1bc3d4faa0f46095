use Rattle.std.proofs.Common.{◌≡◌, ◌∙◌, ap, sym, subst, inl, inr, arith}
use Rattle.std.specs.Prelude.{All, slice_get}
use Rattle.std.proofs.lemmas.Bool.{cases_lt}
use Rattle.std.proofs.lemmas.Option.{get_or_from_slice_get}
use Rattle.dim_signature.specs.Sig.{Sig}
use Rattle.dim_stack.specs.Names.{IsNamedBy}
use Rattle.transfers.proofs.learning.are_spelled.Goals as goal

pub loop-i-preserved : goal.loop-i-preserved
loop-i-preserved c = record {
  named = λ k d lt. elim (cases_lt k c.loop-i.i) [
    | inl low ↦ c.loop-i.invariant.named k d low
    | inr le ↦
        let same : k ≡ c.loop-i.i = omega (arith, lt, le) in
        let is = get_or_from_slice_get c.args.catalogue.now.sigs k c.get.result.now d (ap (slice_get c.args.catalogue.now.sigs) same ∙ c.get.ensures.value) in
        subst (λ (s : Sig). All (IsNamedBy c.args.names.now) s.stacks) (sym is) (c.is_spelled.ensures c.if-not-is_spelled.false)
  ];
}
