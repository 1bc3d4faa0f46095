use Rattle.std.proofs.Common.{◌<◌, ◌||◌, ap, sym, ◌∙◌, subst, List, length, arith}
use Rattle.std.specs.Prelude.{IfSome}
use Rattle.std.specs.List.{list_any}
use Rattle.std.proofs.lemmas.List.{take_all}
use Rattle.dim_signature.specs.Sig.{Sig}
use Rattle.dim_predict.specs.Numbered.{is_at, pair_in}
use Rattle.dim_predict.specs.Pairs.{has_come, pair_slot}
use Rattle.dim_predict.proofs.Loaded.{pair_within, seen_more}
use Rattle.dim_predict.proofs.pairs.see_known.Goals as goal

pub add_if-requires : goal.add_if-requires
add_if-requires c =
    let m = c.args.numbers.now.firsts in
    let table = c.loop-i.seen.table.items in
    subst (λ o. IfSome o (λ p. (p.0 < 4096) × (p.1 < 4096) × (pair_slot p.0 p.1 < length table))) (sym c.pair_of.ensures)
    (pair_within m c.get.result.now.stacks c.args.count (length table) c.requires.few (c.loop-i.invariant.room ∙ c.requires.room) c.requires.numbers)

pub loop-i-preserved : goal.loop-i-preserved
loop-i-preserved c =
    let m = c.args.numbers.now.firsts in
    let sigs = c.args.catalogue.now.sigs in
    let old = c.args.seen.now.table.items in
    let before = c.loop-i.seen.table.items in
    let now = c.add_if.new.self.table.items in
    let inv = c.loop-i.invariant in
    record {
      room = c.add_if.ensures.size ∙ inv.room;
      seen = λ a b p q.
          seen_more (λ (s : Sig). is_at (pair_slot a b) (pair_in m s.stacks)) sigs c.loop-i.i c.get.result.now (has_come before a b) (has_come now a b) (has_come old a b) c.get.ensures.value
          (c.add_if.ensures.seen a b p q ∙ ap (λ o. is_at (pair_slot a b) o || has_come before a b) c.pair_of.ensures) (inv.seen a b p q);
    }

pub returns-clause-seen : goal.returns-clause-seen
returns-clause-seen c = λ a b p q.
    let m = c.args.numbers.now.firsts in
    let sigs = c.args.catalogue.now.sigs in
    let old = c.args.seen.now.table.items in
    let i = c.loop-i.i in
    let all = take_all i sigs (let e = c.loop-i-test.false in let n = c.len-i-end.ensures.len in omega (arith, e, n)) in
    c.loop-i.invariant.seen a b p q ∙ ap (λ (xs : List Sig). list_any (λ (s : Sig). is_at (pair_slot a b) (pair_in m s.stacks)) xs || has_come old a b) all
