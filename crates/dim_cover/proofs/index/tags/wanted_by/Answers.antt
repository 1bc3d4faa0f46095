use Rattle.std.proofs.Common.{◌≡◌, ◌<◌, ◌≤◌, ◌∙◌, ℕ, Bool, List, true, false, ap, sym, refl, inl, inr, arith, length, get_or}
use Rattle.std.specs.Prelude.{slice_get}
use Rattle.std.proofs.Math.ListN.{length-set}
use Rattle.std.proofs.lemmas.Bool.{cases_lt}
use Rattle.std.proofs.lemmas.Grind.{get_or-set_at}
use Rattle.std.proofs.lemmas.List.{get_or-replicate, length-replicate}
use Rattle.std.proofs.lemmas.Option.{slice_get_within, same_Some}
use Rattle.dim_cover.specs.Index.{pair, tag_of}
use Rattle.dim_cover.proofs.Lists.{set_true}
use Rattle.dim_cover.proofs.index.tags.wanted_by.Goals as goal

pub loop-i-init : goal.loop-i-init
loop-i-init c = record { size = refl; all = λ j s lt. absurd (omega (arith, lt)) }

pub loop-i-preserved : goal.loop-i-preserved
loop-i-preserved c =
    let wanted = c.loop-i.wanted in
    let tag : ℕ = c.tag_of.result in
    record {
      size = length-set wanted tag true ∙ c.loop-i.invariant.size;
      all = λ j s lt at. elim (cases_lt j c.loop-i.i) [
        | inl low ↦ set_true wanted tag (tag_of (pair s)) (c.loop-i.invariant.all j s low at)
        | inr high ↦
            let same : j ≡ c.loop-i.i = omega (arith, high, lt) in
            let stack : c.stack.result.now ≡ s = same_Some c.stack.result.now s (sym c.stack.ensures ∙ ap (slice_get c.args.sig.now.stacks) (sym same) ∙ at) in
            let own : tag ≡ tag_of (pair s) = c.tag_of.ensures.tag ∙ ap tag_of c.pair_of.ensures.bucket ∙ ap (λ x. tag_of (pair x)) stack in
            get_or-set_at wanted tag (tag_of (pair s)) true false (sym own) (omega (arith, c.tag_of.ensures.low, c.loop-i.invariant.size))
      ];
    }

pub returns-then-depth-lt2-clause-wanted : goal.returns-then-depth-lt2-clause-wanted
returns-then-depth-lt2-clause-wanted c = record {
  size = ap (λ (w : List Bool). length w) c.every_tag.ensures ∙ length-replicate {A = Bool} 64 true;
  deep = λ d. absurd (omega (arith, d, c.if-depth-lt2.true, c.depth.ensures.depth));
  shallow = λ q t low. ap (λ (w : List Bool). get_or w t false) c.every_tag.ensures ∙ get_or-replicate 64 t true false low;
}

pub returns-clause-wanted : goal.returns-clause-wanted
returns-clause-wanted c = record {
  size = c.loop-i.invariant.size;
  deep = λ d j s at. c.loop-i.invariant.all j s (let lt : j < length c.args.sig.now.stacks = slice_get_within c.args.sig.now.stacks j s at in let all : c.len-i-end.result ≤ c.loop-i.i = c.loop-i-test.false in omega (arith, lt, all, c.len-i-end.ensures.len)) at;
  shallow = λ q. absurd (omega (arith, q, c.if-depth-lt2.false, c.depth.ensures.depth));
}
