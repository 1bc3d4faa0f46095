use Rattle.std.proofs.Common.{ℕ, List, sym, ap, ◌∙◌}
use Rattle.std.specs.Prelude.{option_map}
use Rattle.std.proofs.lemmas.Result.{err_from_is_err_and}
use Rattle.dim_text.specs.Reading.{Fails}
use Rattle.dim_merge.specs.Course.{makes_of, texts}
use Rattle.dim_merge.specs.Made.{made_of}
use Rattle.dim_merge.specs.Sources.{texts_of}
use Rattle.dim_merge.specs.Stops.{IsNoFault, refusal_of}
use Rattle.dim_merge.specs.Words.{words_of}
use Rattle.dim_merge.proofs.Going.{at_made, at_stored, at_texts, cause_of, course_none}
use Rattle.dim_merge.proofs.program.perform.Goals as goal

pub returns-in-None-clause-performs : goal.returns-in-None-clause-performs
returns-in-None-clause-performs g c =
    λ files told. (course_none files c.args.words.now (sym c.merge_words.ensures ∙ ap (option_map words_of) c.in-None.is), told)

pub returns-in_err-texts-clause-performs : goal.returns-in_err-texts-clause-performs
returns-in_err-texts-clause-performs g c =
    λ files told.
    let p = err_from_is_err_and c.from_residual.result c.from_residual.ensures.1 in
    let w = words_of c.in-Some.words in
    let asked = sym c.merge_words.ensures ∙ ap (option_map words_of) c.in-Some.is in
    let failed : Fails (refusal_of p.0) (texts files w) = rw p.2 (c.in_err-texts.ensures.texts files told) in
    rw p.1 (at_texts files c.args.words.now w p.0 _ asked failed (c.in_err-texts.ensures.kept ∙ told))

pub returns-in_err-made-clause-performs : goal.returns-in_err-made-clause-performs
returns-in_err-made-clause-performs g c =
    λ files told.
    let p = err_from_is_err_and c.from_residual-in_err-made.result c.from_residual-in_err-made.ensures.1 in
    let w = words_of c.in-Some.words in
    let asked = sym c.merge_words.ensures ∙ ap (option_map words_of) c.in-Some.is in
    let bytes = texts_of c.in_ok-texts.texts in
    let failed : Fails (refusal_of p.0) (makes_of w.new_history bytes) = rw p.2 (c.in_err-made.ensures.made w.new_history) in
    rw p.1 (at_made files c.args.words.now w bytes p.0 _ asked (c.in_ok-texts.ensures.texts files told) failed (c.in_ok-texts.ensures.kept ∙ told))

pub returns-in_err-made-clause-cause : goal.returns-in_err-made-clause-cause
returns-in_err-made-clause-cause g c =
    let p = err_from_is_err_and c.from_residual-in_err-made.result c.from_residual-in_err-made.ensures.1 in
    let none : IsNoFault p.0 = rw p.2 c.in_err-made.ensures.faultless in
    rw p.1 (cause_of (List ℕ) (g.F.Files.faults c.args.files.now) (g.F.Files.faults c.fetch.new.files) p.0 c.in_ok-texts.ensures.cause none)

pub returns-clause-performs : goal.returns-clause-performs
returns-clause-performs g c =
    λ files told.
    let w = words_of c.in-Some.words in
    let asked = sym c.merge_words.ensures ∙ ap (option_map words_of) c.in-Some.is in
    at_stored files c.args.words.now w (texts_of c.in_ok-texts.texts) (made_of w.new_history c.in_ok-made.made) c.store.result _ asked
    (c.in_ok-texts.ensures.texts files told) (c.in_ok-made.ensures.made w.new_history) (c.store.ensures.performs files (c.in_ok-texts.ensures.kept ∙ told))
