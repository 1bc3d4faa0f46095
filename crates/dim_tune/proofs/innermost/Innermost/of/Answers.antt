use Rattle.std.proofs.Common.{◌≡◌, ◌<◌, true, ap, sym, ◌∙◌, subst, inl, inr, arith}
use Rattle.std.specs.Prelude.{slice_get}
use Rattle.std.proofs.lemmas.Bool.{cases_lt}
use Rattle.std.proofs.lemmas.Option.{same_Some, slice_get_within}
use Rattle.dim_rag.specs.Born.{In}
use Rattle.dim_signature.specs.Sig.{Sig}
use Rattle.dim_tune.specs.Innermost.{IsFiled, filed}
use Rattle.dim_tune.proofs.innermost.Innermost.of.Goals as goal

pub loop-i-preserved : goal.loop-i-preserved
loop-i-preserved c =
    let v = c.loop-i.invariant in
    let e = c.in_ok-file_if_on.ensures in
    let new = c.file_if_on.new.files in
    record {
      each = λ k s low here on j x f at first. elim (cases_lt k c.loop-i.i) [
        | inl before ↦ (e.gains f).kept k (v.each k s before here on j x f at first)
        | inr last ↦
            let same : c.loop-i.i ≡ k = omega (arith, low, last) in
            let sig : c.get.result.now ≡ s = same_Some c.get.result.now s (sym c.get.ensures.value ∙ ap (λ n. slice_get c.args.loaded.now.sigs n) same ∙ here) in
            subst (λ n. In n (filed new f)) same (subst (λ (t : Sig). t.on ≡ true → IsFiled new c.loop-i.i t.stacks) sig e.filed on j x f at first)
      ];
      only = λ f n i. elim ((e.gains f).only n i) [
        | inl before ↦ (let low : n < c.loop-i.i = v.only f n before in omega (arith, low))
        | inr last ↦ omega (arith, last)
      ];
    }

pub returns : goal.returns
returns c =
    let v = c.loop-i.invariant in
    record {
      each = λ i s here. v.each i s (let low = slice_get_within c.args.loaded.now.sigs i s here in omega (arith, low, c.loop-i-test.false, c.len-i-end.ensures.len)) here;
      only = λ f n i. let low : n < c.loop-i.i = v.only f n i in omega (arith, low, c.loop-i.auto.i-end, c.len-i-end.ensures.len);
    }
