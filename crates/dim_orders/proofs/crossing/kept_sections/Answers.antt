use Rattle.std.proofs.Common.{◌≡◌, ◌+◌, ◌++◌, [], List, ◌∷◌, drop, map, sym, ap, ◌∙◌, if◌then◌else◌}
use Rattle.std.proofs.lemmas.List.{append-nil, drop_more}
use Rattle.dim_orders.specs.declared.kept.Operation.{Operation}
use Rattle.dim_orders.specs.Crossing.{kept_from}
use Rattle.dim_orders.proofs.Keys.{keeps_step}
use Rattle.dim_orders.proofs.crossing.kept_sections.Goals.{then-branch+in_ok-extend_from_slice, else-branch}
use Rattle.dim_orders.proofs.crossing.kept_sections.Goals as goal

pub loop-section-preserved : goal.loop-section-preserved
loop-section-preserved c =
    let all = c.args.sections.now in
    let i = c.loop-section.section-index in
    let v = c.section-item.result in
    let s : List Operation = c.deref.result.now in
    let is = c.deref.ensures.value in
    let inv = c.loop-section.invariant in
    let kept = c.loop-section.kept.items in
    let b = c.in_ok-add_crossings.field-0 in
    let more : c.if-branch.kept.items ≡ kept ++ (if b then s else []) = elim c.if-branch.branch [
      | then-branch+in_ok-extend_from_slice w ↦ ap (λ v. v.items) w.kept-is ∙ w.in_ok-extend_from_slice.ensures.items ∙ ap (λ (xs : List Operation). kept ++ xs) (w.deref-then-branch.ensures.value ∙ sym is) ∙ ap (λ u. kept ++ (if u then s else [])) (sym w.if-branch.true)
      | else-branch w ↦ ap (λ v. v.items) w.kept-is ∙ sym (append-nil kept) ∙ ap (λ u. kept ++ (if u then s else [])) (sym w.if-branch.false)
    ] in
    keeps_step c.args.parts.now (kept_from c.args.parts.now [] (map (λ v. v.items) all)) kept c.if-branch.kept.items s (map (λ v. v.items) (drop (i + 1) all)) inv.0
    c.loop-section.had.keys c.add_crossings.new.had.keys (map (λ v. v.items) (drop i all)) b inv.1 inv.2
    (ap (λ vs. map (λ v. v.items) vs) (drop_more all i v c.loop-section-test.true) ∙ ap (λ v. v.items ∷ map (λ w. w.items) (drop (i + 1) all)) (sym c.section-item.is) ∙ ap (λ (x : List Operation). x ∷ map (λ w. w.items) (drop (i + 1) all)) (sym is))
    c.in_ok-add_crossings.ensures more
