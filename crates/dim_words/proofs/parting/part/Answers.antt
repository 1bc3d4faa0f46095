use Rattle.std.proofs.Common.{◌∙◌, map, option_and_then, ap, sym}
use Rattle.std.proofs.lemmas.Result.{IfOk-weaker}
use Rattle.dim_words.specs.Words.{asked_by}
use Rattle.dim_words.specs.Kept.{Kept}
use Rattle.dim_words.proofs.Parts.{not_kept, not_found_in, found_gives_in}
use Rattle.dim_words.proofs.parting.part.Goals as goal

pub returns-in_default : goal.returns-in_default
returns-in_default c = not_kept c.args.kind c.args.words.now (sym c.in_ok-kept.ensures ∙ c.in_default.is)

pub returns-in_default-2 : goal.returns-in_default-2
returns-in_default-2 c =
    not_found_in c.args.kind c.args.words.now c.in-Some.kept (map (λ w. w.now) c.as_slice.result.now) c.in_ok-found.field-0 (sym c.in_ok-kept.ensures ∙ c.in-Some.is)
    (ap (map (λ w. w.now)) c.as_slice.ensures.value ∙ ap (λ (k : Kept). k.words) c.kept.view_is) c.in_default-2.is c.in_ok-found.ensures

pub returns : goal.returns
returns c =
    IfOk-weaker c.words_taken.result _ _ (λ p h. ap (option_and_then (asked_by c.args.kind)) (h ∙ found_gives_in c.args.kind c.args.words.now c.in-Some.kept (map (λ w. w.now) c.as_slice.result.now) c.in_ok-found.field-0 c.in-Some-2.found
    (sym c.in_ok-kept.ensures ∙ c.in-Some.is)
    (ap (map (λ w. w.now)) c.as_slice.ensures.value ∙ ap (λ (k : Kept). k.words) c.kept.view_is) c.in-Some-2.is c.in_ok-found.ensures)) c.words_taken.ensures
