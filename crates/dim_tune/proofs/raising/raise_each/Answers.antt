use Rattle.std.proofs.Common.{◌≡◌, ℕ, ◌<◌, length, set, get_or, ap, sym, ◌∙◌, subst, inl, inr, arith}
use Rattle.std.specs.Prelude.{Some, slice_get}
use Rattle.std.proofs.lemmas.Bool.{cases_eq}
use Rattle.std.proofs.lemmas.List.{length-set}
use Rattle.std.proofs.lemmas.Option.{same_Some, slice_get-get_or}
use Rattle.dim_rag.specs.Shown.{shown}
use Rattle.dim_signature.specs.Sig.{Sig}
use Rattle.dim_tune.specs.declared.lowered.Lowered.{Lowered}
use Rattle.dim_tune.specs.Raised.{IsLowered, IsRaised}
use Rattle.dim_tune.proofs.Filing.{in_next, raised_on}
use Rattle.dim_tune.proofs.Lists.{get_set_other, get_set_same, in_at}
use Rattle.dim_tune.proofs.raising.raise_each.Goals as goal

pub index_mut-requires : goal.index_mut-requires
index_mut-requires c =
    let numbers = c.args.numbers.now in
    let low : get_or numbers c.loop-k.k 0 < length c.args.loaded.now.sigs = c.requires.numbers (get_or numbers c.loop-k.k 0) (in_at numbers c.loop-k.k (get_or numbers c.loop-k.k 0) (slice_get-get_or numbers c.loop-k.k 0 c.loop-k-test.true)) in
    omega (arith, low, c.loop-k.invariant.lowered.count)

pub get-requires : goal.get-requires
get-requires c =
    let numbers = c.args.numbers.now in
    c.requires.numbers (get_or numbers c.loop-k.k 0) (in_at numbers c.loop-k.k (get_or numbers c.loop-k.k 0) (slice_get-get_or numbers c.loop-k.k 0 c.loop-k-test.true))

pub raise-requires-clause-lowered : goal.raise-requires-clause-lowered
raise-requires-clause-lowered c =
    let numbers = c.args.numbers.now in
    let i = get_or numbers c.loop-k.k 0 in
    let old = c.loop-k.all.items in
    let x = c.index_mut.result.now in
    let low : i < length c.args.loaded.now.sigs = c.requires.numbers i (in_at numbers c.loop-k.k i (slice_get-get_or numbers c.loop-k.k 0 c.loop-k-test.true)) in
    let there : slice_get old i ≡ Some x = slice_get-get_or old i x (omega (arith, low, c.loop-k.invariant.lowered.count)) ∙ ap (λ (z : Lowered). Some z) (sym c.index_mut.ensures.value) in
    c.loop-k.invariant.lowered.each i c.get.result.now x c.get.ensures.value there

pub loop-k-preserved : goal.loop-k-preserved
loop-k-preserved c =
    let sigs = c.args.loaded.now.sigs in
    let numbers = c.args.numbers.now in
    let i = get_or numbers c.loop-k.k 0 in
    let old = c.loop-k.all.items in
    let v = c.loop-k.invariant in
    let es = c.args.index.now.edges in
    let e = (shown c.args.e.now) in
    let new = c.args.edge.now in
    let z = c.index_mut.result.now in
    let x = c.raise.new.x in
    let sig_at : (j : ℕ) (s : Sig) → j ≡ i → slice_get sigs j ≡ Some s → c.get.result.now ≡ s =
    λ j s same here. same_Some c.get.result.now s (sym c.get.ensures.value ∙ ap (λ n. slice_get sigs n) (sym same) ∙ here) in
    let set_at : (j : ℕ) (y : Lowered) → j ≡ i → slice_get (set old i x) j ≡ Some y → x ≡ y =
    λ j y same at. get_set_same old i x y (ap (λ n. slice_get (set old i x) n) (sym same) ∙ at) in
    let low : i < length sigs = c.requires.numbers i (in_at numbers c.loop-k.k i (slice_get-get_or numbers c.loop-k.k 0 c.loop-k-test.true)) in
    let there : slice_get old i ≡ Some z = slice_get-get_or old i z (omega (arith, low, v.lowered.count)) ∙ ap (λ (w : Lowered). Some w) (sym c.index_mut.ensures.value) in
    record {
      lowered = record {
        count = length-set old i x ∙ v.lowered.count;
        each = λ j s y here at. elim (cases_eq j i) [
          | inl same ↦ subst (λ (w : Lowered). IsLowered s w) (set_at j y same at) (subst (λ (t : Sig). IsLowered t x) (sig_at j s same here) c.in_ok-raise.ensures.lowered)
          | inr other ↦ v.lowered.each j s y here (sym (get_set_other old i j x other) ∙ at)
        ];
      };
      raised = λ j s w y here was at. elim (cases_eq j i) [
        | inl same ↦
            let at_s = subst (λ (t : Sig). IsRaised t i es e new z.depth x.depth) (sig_at j s same here) c.in_ok-raise.ensures.raised in
            let at_j = subst (λ n. IsRaised s n es e new z.depth x.depth) (sym same) at_s in
            let now : IsRaised s j es e new z.depth y.depth = subst (λ (t : Lowered). IsRaised s j es e new z.depth t.depth) (set_at j y same at) at_j in
            elim (v.raised j s w z here was (ap (λ n. slice_get old n) same ∙ there)) [
              | inl before ↦ inl (raised_on s j es e new w.depth z.depth y.depth before now)
              | inr before ↦ inl (subst (λ n. IsRaised s j es e new n y.depth) before.0 now)
            ]
        | inr other ↦ elim (v.raised j s w y here was (sym (get_set_other old i j x other) ∙ at)) [
          | inl before ↦ inl before
          | inr before ↦ inr (before.0, λ m. elim (in_next numbers c.loop-k.k j 0 c.loop-k-test.true m) [ inl k ↦ before.1 k | inr q ↦ other (sym q) ])
        ]
      ];
    }
