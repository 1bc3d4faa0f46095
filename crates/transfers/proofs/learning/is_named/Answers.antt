use Rattle.std.proofs.Common.{◌≡◌, ◌∙◌, ◌<◌, ap, sym, subst, inl, inr, length, arith}
use Rattle.std.specs.Prelude.{slice_get}
use Rattle.std.proofs.lemmas.Bool.{cases_lt}
use Rattle.std.proofs.lemmas.Option.{get_or_from_slice_get}
use Rattle.dim_stack.specs.declared.Frame.{Frame}
use Rattle.transfers.proofs.learning.is_named.Goals as goal

pub loop-i-preserved : goal.loop-i-preserved
loop-i-preserved c = record {
  named = λ k d lt. elim (cases_lt k c.loop-i.i) [
    | inl low ↦ c.loop-i.invariant.named k d low
    | inr le ↦
        let same : k ≡ c.loop-i.i = omega (arith, lt, le) in
        let is = get_or_from_slice_get c.args.stack.now k c.frame.result d (ap (slice_get c.args.stack.now) same ∙ c.frame.ensures) in
        subst (λ (f : Frame). f.func < length c.args.names.now) (sym is) (c.has_name.ensures c.if-not-has_name.false)
  ];
}
