use Rattle.std.proofs.Common.{◌≡◌, ◌<◌, ◌-◌, ℕ, suc, ap, sym, ◌∙◌, subst, arith, length, get_or, drop}
use Rattle.std.proofs.lemmas.List.{get_or_default}
use Rattle.std.proofs.lemmas.List.Elements.{All-get_or}
use Rattle.dim_rag.specs.declared.entry.Edge.{Edge}
use Rattle.dim_rag.specs.Born.{In}
use Rattle.dim_cover.specs.Index.{edge_in, no_edge}
use Rattle.dim_cover.proofs.Placed.{place_is, place_none, none_more}
use Rattle.dim_cover.proofs.index.place_of.Goals as goal

pub returns-then-edges-slots : goal.returns-then-edges-slots
returns-then-edges-slots c =
    let slots = c.args.slots.now in
    let edges = c.args.edges.now in
    let i : ℕ = c.loop-left.left - 1 in
    let lt : i < length slots = omega (arith, c.loop-left-test.true, c.loop-left.invariant.places) in
    let below : get_or slots i 0 < length edges = All-get_or (λ s. s < length edges) slots i 0 lt c.requires.within in
    let own : (edge_in edges (get_or slots i 0)).birth ≡ c.args.birth = sym (ap (λ (e : Edge). e.birth) (get_or_default edges (get_or slots i 0) _ no_edge below)) ∙ c.if-edges-slots.true in
    sym (place_is edges c.args.birth slots i c.requires.sorted lt own)

pub loop-left-preserved : goal.loop-left-preserved
loop-left-preserved c =
    let slots = c.args.slots.now in
    let edges = c.args.edges.now in
    let i : ℕ = c.loop-left.left - 1 in
    let lower : suc i ≡ c.loop-left.left = omega (arith, c.loop-left-test.true) in
    let lt : i < length slots = omega (arith, lower, c.loop-left.invariant.places) in
    let below : get_or slots i 0 < length edges = All-get_or (λ s. s < length edges) slots i 0 lt c.requires.within in
    record {
      places = omega (arith, lt);
      others = none_more edges c.args.birth slots i c.loop-left.left lower lt (λ e. c.if-edges-slots.false (ap (λ (e : Edge). e.birth) (get_or_default edges (get_or slots i 0) _ no_edge below) ∙ e)) c.loop-left.invariant.others;
    }

pub returns : goal.returns
returns c =
    let slots = c.args.slots.now in
    let first : c.loop-left.left ≡ 0 = omega (arith, c.loop-left-test.false) in
    sym (place_none c.args.edges.now c.args.birth slots (λ u i q. c.loop-left.invariant.others u (subst (λ n. In u (drop n slots)) (sym first) i) q))
