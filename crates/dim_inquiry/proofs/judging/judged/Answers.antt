use Rattle.std.proofs.Common.{◌≡◌, Some, refl, sym, ◌∙◌, subst}
use Rattle.std.proofs.lemmas.Result.{err_from_is_err_and}
use Rattle.dim_words.specs.Commands.{check_words}
use Rattle.dim_inquiry.specs.Course.{Stops, after_calls}
use Rattle.dim_inquiry.specs.Judging.{fetches_texts, takes_given, judges, given_of}
use Rattle.dim_inquiry.proofs.CheckLemmas.{at_fetching, at_taking, at_judging, at_judged}
use Rattle.dim_inquiry.proofs.CourseLemmas.{unchanged}
use Rattle.dim_inquiry.proofs.judging.judged.Goals as goal

pub returns-in_err-texts-clause-runs : goal.returns-in_err-texts-clause-runs
returns-in_err-texts-clause-runs g c =
    λ files told.
    let p = err_from_is_err_and c.from_residual.result c.from_residual.ensures.1 in
    let w = check_words c.args.command.now in
    let stopped : Stops (fetches_texts files w) files p.0 (g.F.Files.told c.fetch_texts.new.files) = rw p.2 (c.in_err-texts.ensures.runs files told) in
    rw p.1 (at_fetching files w p.0 _ stopped)

pub returns-in_err-given-clause-runs : goal.returns-in_err-given-clause-runs
returns-in_err-given-clause-runs g c =
    λ files told.
    let p = err_from_is_err_and c.from_residual-in_err-given.result c.from_residual-in_err-given.ensures.1 in
    let w = check_words c.args.command.now in
    let texts = c.in_ok-texts.texts in
    let got = c.in_ok-texts.ensures.runs files told in
    let kept : g.F.Files.told c.fetch_texts.new.files ≡ Some files = c.in_ok-texts.ensures.kept ∙ told in
    let same = unchanged files (after_calls (fetches_texts files w).calls files) _ kept got.1 in
    let stopped : Stops (takes_given texts) files p.0 (Some files) = rw p.2 (c.in_err-given.ensures.runs files) in
    rw p.1 (at_taking files w texts p.0 _ got.0 same (subst (Stops (takes_given texts) files p.0) (sym kept) stopped))

pub returns-in_err-judge-clause-runs : goal.returns-in_err-judge-clause-runs
returns-in_err-judge-clause-runs g c =
    λ files told.
    let p = err_from_is_err_and c.from_residual-in_err-judge.result c.from_residual-in_err-judge.ensures.1 in
    let w = check_words c.args.command.now in
    let texts = c.in_ok-texts.texts in
    let got = c.in_ok-texts.ensures.runs files told in
    let kept : g.F.Files.told c.fetch_texts.new.files ≡ Some files = c.in_ok-texts.ensures.kept ∙ told in
    let same = unchanged files (after_calls (fetches_texts files w).calls files) _ kept got.1 in
    let taken = c.in_ok-given.ensures.runs files in
    let still = unchanged files (after_calls (takes_given texts).calls files) (Some files) refl taken.1 in
    let given = given_of c.in_ok-given.given in
    let stopped : Stops (judges given) files p.0 (Some files) = rw p.2 (c.in_err-judge.ensures.runs files) in
    rw p.1 (at_judging files w texts given p.0 _ (record { fetched = got.0; kept = same; taken = taken.0; still = still }) (subst (Stops (judges given) files p.0) (sym kept) stopped))

pub returns-clause-runs : goal.returns-clause-runs
returns-clause-runs g c =
    λ files told.
    let w = check_words c.args.command.now in
    let texts = c.in_ok-texts.texts in
    let got = c.in_ok-texts.ensures.runs files told in
    let kept : g.F.Files.told c.fetch_texts.new.files ≡ Some files = c.in_ok-texts.ensures.kept ∙ told in
    let same = unchanged files (after_calls (fetches_texts files w).calls files) _ kept got.1 in
    let taken = c.in_ok-given.ensures.runs files in
    let still = unchanged files (after_calls (takes_given texts).calls files) (Some files) refl taken.1 in
    let given = c.in_ok-given.given in
    let so = c.in_ok-judge.ensures.runs files in
    let calm = unchanged files (after_calls (judges (given_of given)).calls files) (Some files) refl so.1 in
    at_judged given_of files w texts given _ (record { fetched = got.0; kept = same; taken = taken.0; still = still }) so.0 calm kept
