use Rattle.std.proofs.Common.{◌≡◌, ◌++◌, ◌∷◌, [], List, None, take, sym, ap, ◌∙◌, subst, append_assoc}
use Rattle.dim_signature.specs.Sig.{Sig}
use Rattle.dim_signature.specs.Catalogue.{signature_number}
use Rattle.dim_history_file.proofs.Sound.{take_one_more}
use Rattle.dim_merge.proofs.Different.{next_new}
use Rattle.dim_merge.proofs.parts.add_all.Goals as goal

pub add_new-requires-clause-new : goal.add_new-requires-clause-new
add_new-requires-clause-new c =
    let s = c.get.result.now in
    subst (λ (ss : List Sig). signature_number ss s.stacks ≡ None) (sym c.loop-i.invariant)
    (next_new c.args.catalogue.now.sigs c.args.others.now.sigs c.loop-i.i s c.get.ensures.value c.requires.different)

pub loop-i-preserved : goal.loop-i-preserved
loop-i-preserved c =
    let old = c.args.catalogue.now.sigs in
    let others = c.args.others.now.sigs in
    let i = c.loop-i.i in
    let s = c.get.result.now in
    c.in_ok-add_new.ensures.added
    ∙ ap (λ (ss : List Sig). ss ++ s ∷ []) c.loop-i.invariant
    ∙ append_assoc old (take i others) (s ∷ [])
    ∙ ap (λ (ss : List Sig). old ++ ss) (sym (take_one_more others i s c.get.ensures.value))
