use Rattle.std.proofs.Common.{◌≡◌, ◌<◌, ◌++◌, ◌∷◌, [], List, None, length, take, sym, ap, ◌∙◌, subst, arith}
use Rattle.std.proofs.lemmas.List.{length-take-le}
use Rattle.std.proofs.lemmas.List.Elements.{filter-append}
use Rattle.dim_signature.specs.Sig.{Sig}
use Rattle.dim_signature.specs.Catalogue.{signature_number}
use Rattle.dim_history_file.proofs.Sound.{take_one_more}
use Rattle.dim_merge.specs.Numbered.{is_unknown_to, unknown_to}
use Rattle.dim_merge.proofs.Counting.{few_kept, new_kept}
use Rattle.dim_merge.proofs.parts.unknown_to.Goals as goal

pub add_unknown-requires-clause-few : goal.add_unknown-requires-clause-few
add_unknown-requires-clause-few c =
    let others = c.args.others.now.sigs in
    let i = c.loop-i.i in
    let low : i < length others = omega (arith, c.loop-i-test.true, c.len-i-end.ensures.len) in
    omega (arith, ap length c.loop-i.invariant, few_kept (is_unknown_to c.args.known.now.sigs) (take i others), length-take-le i others (omega (arith, low)), low, c.len-i-end.ensures.catalogue.few)

pub add_unknown-requires-clause-new : goal.add_unknown-requires-clause-new
add_unknown-requires-clause-new c =
    let s = c.get.result.now in
    subst (λ (ss : List Sig). signature_number ss s.stacks ≡ None) (sym c.loop-i.invariant)
    (new_kept (is_unknown_to c.args.known.now.sigs) c.args.others.now.sigs c.loop-i.i s c.len-i-end.ensures.catalogue c.get.ensures.value)

pub loop-i-preserved : goal.loop-i-preserved
loop-i-preserved c =
    let known = c.args.known.now.sigs in
    let others = c.args.others.now.sigs in
    let i = c.loop-i.i in
    let s = c.get.result.now in
    c.in_ok-add_unknown.ensures
    ∙ ap (λ (ss : List Sig). ss ++ unknown_to known (s ∷ [])) c.loop-i.invariant
    ∙ sym (ap (unknown_to known) (take_one_more others i s c.get.ensures.value) ∙ filter-append (is_unknown_to known) (take i others) (s ∷ []))
