use Rattle.std.proofs.Common.{◌+◌, refl, ap, sym, ◌∙◌, subst, map, drop, List, ◌++◌, [], length, get_or, append_assoc}
use Rattle.std.proofs.lemmas.List.{drop_more}
use Rattle.dim_predict.specs.declared.key.Key.{Key}
use Rattle.dim_predict.specs.Keys.{content_of}
use Rattle.dim_predict.specs.Pairs.{AreNumbers, IsSearched}
use Rattle.dim_predict.proofs.Numbering.{some_key}
use Rattle.dim_predict.proofs.Repeats.{Stacks, row, stacks, stacks_cons}
use Rattle.dim_predict.proofs.pairs.new_pairs.Goals as goal

pub loop-i-init : goal.loop-i-init
loop-i-init c =
    let searched = c.in_ok-found.ensures.searched in
    record { numbers = c.in_ok-found.ensures.numbers; room = searched.size; step = ([], searched, refl) }

pub loop-i-preserved : goal.loop-i-preserved
loop-i-preserved c =
    let keys = c.args.keys.now in
    let i = c.loop-i.i in
    let inv = c.loop-i.invariant in
    let e = c.in_ok-row.ensures in
    let f = c.row.new.self in
    let d = some_key keys i c.loop-i-test.true in
    let k = content_of (get_or keys i d) in
    let behind = map content_of (drop (i + 1) keys) in
    let come = inv.step.0 in
    record {
      numbers = subst (AreNumbers keys (length keys)) (sym e.kept) inv.numbers;
      room = e.room ∙ inv.room;
      step = (
        come ++ row k behind,
        subst (λ ns. IsSearched c.args.catalogue.now.sigs keys ns (come ++ row k behind) f.seen.table.items f.pairs.items) (sym e.kept) (e.step c.args.catalogue.now.sigs come d inv.step.1),
        append_assoc come (row k behind) (stacks behind)
            ∙ ap (λ (ss : List Stacks). come ++ ss) (sym (stacks_cons k behind) ∙ ap (λ (xs : List Key). stacks (map content_of xs)) (sym (drop_more keys i d c.loop-i-test.true)))
            ∙ inv.step.2,
      );
    }
