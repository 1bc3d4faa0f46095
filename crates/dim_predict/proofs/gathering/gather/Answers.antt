use Rattle.std.proofs.Common.{Err, ℕ, ◌≡◌, ◌+◌, ap, ap₂, sym, ◌∙◌, subst, map, take, drop, List, ◌∷◌, ◌++◌, [], length, arith}
use Rattle.std.specs.Prelude.{Some, slice_get}
use Rattle.std.proofs.lemmas.List.{take_more, take-append-drop, reverse-append}
use Rattle.std.specs.Result.{result_err}
use Rattle.std.proofs.lemmas.Option.{same_Some, get_or_from_slice_get, slice_get_within}
use Rattle.std.proofs.lemmas.Result.{err_from_is_err_and}
use Rattle.dim_rag.specs.declared.entry.Entry.{Entry}
use Rattle.dim_rag.specs.Fits.{FitsAfter, IsInRange}
use Rattle.dim_rag.specs.History.{past, grant}
use Rattle.dim_rag.specs.Shown.{shown}
use Rattle.dim_rag.proofs.Exports.{fits_law}
use Rattle.dim_predict.specs.Candidates.{all_noted, different}
use Rattle.dim_predict.specs.Nestings.{Content, Nesting, contents, nestings_of, said_by}
use Rattle.dim_predict.proofs.Noting.{different_grow, different_more}
use Rattle.dim_predict.proofs.gathering.gather.Goals as goal

-- the entries down to a place
one_more : (entries : List Entry) (i : ℕ) (e : Entry) → slice_get entries i ≡ Some e → take (i + 1) entries ≡ take i entries ++ e ∷ []
one_more entries i e at = take_more entries i e (slice_get_within entries i e at) ∙ ap (λ (x : Entry). take i entries ++ x ∷ []) (get_or_from_slice_get entries i e e at)

pub take-requires-clause-in_range : goal.take-requires-clause-in_range
take-requires-clause-in_range c =
    let e = shown c.look.result in
    let i = c.loop-place.place in
    let entries = c.args.trace.now.entries in
    let at : slice_get entries i ≡ Some e = c.look.ensures.entry in
    let here = (fits_law.in_range c.args.threads c.args.locks entries).0 c.requires.in_range i e at in
    subst (λ n. IsInRange n c.loop-place.gathering.graph.locks e) (sym c.loop-place.invariant.threads) (subst (λ m. IsInRange c.args.threads m e) (sym c.loop-place.invariant.locks) here)

pub take-requires-clause-fits : goal.take-requires-clause-fits
take-requires-clause-fits c =
    let e = shown c.look.result in
    let i = c.loop-place.place in
    let entries = c.args.trace.now.entries in
    let at : slice_get entries i ≡ Some e = c.look.ensures.entry in
    subst (λ (es : List Entry). FitsAfter (past es) e) (sym c.loop-place.invariant.entries) ((fits_law.fits entries).0 c.requires.fits i e at)

pub loop-place-preserved : goal.loop-place-preserved
loop-place-preserved c =
    let e = shown c.look.result in
    let i = c.loop-place.place in
    let entries = c.args.trace.now.entries in
    let inv = c.loop-place.invariant in
    let n = c.in_ok-take.ensures in
    let more = one_more entries i e c.look.ensures.entry in
    record {
      threads = ap (λ g. g.threads) n.graph ∙ inv.threads;
      locks = ap (λ g. g.locks) n.graph ∙ inv.locks;
      entries = ap (λ g. g.entries) n.graph ∙ ap (λ (es : List Entry). es ++ e ∷ []) inv.entries ∙ sym more;
      room = (let spare = ap (λ g. g.spare) n.graph in let room = inv.room in let low = slice_get_within entries i e c.look.ensures.entry in omega (arith, spare, room, low));
      roll = n.roll;
      noted = n.noted ∙ ap₂ (λ (cs : List Content) (es : List Entry). all_noted cs (said_by (past es) (grant (e ∷ past es)))) inv.noted inv.entries
          ∙ sym (different_more (take i entries) e) ∙ ap (λ (es : List Entry). different (contents es)) (sym more);
    }

pub returns-in_err-take-clause-many : goal.returns-in_err-take-clause-many
returns-in_err-take-clause-many c = λ q.
    let e = shown c.look.result in
    let i = c.loop-place.place in
    let entries = c.args.trace.now.entries in
    let inv = c.loop-place.invariant in
    let more = one_more entries i e c.look.ensures.entry in
    let out = err_from_is_err_and c.from_residual-in_err-take.result c.from_residual-in_err-take.ensures.1 in
    let many = c.in_err-take.ensures.many (ap Err (sym out.2 ∙ same_Some _ _ (ap result_err (sym out.1 ∙ q)))) in
    let same = ap length (ap₂ (λ (cs : List Content) (es : List Entry). all_noted cs (said_by (past es) (grant (e ∷ past es)))) inv.noted inv.entries
    ∙ sym (different_more (take i entries) e) ∙ ap (λ (es : List Entry). different (contents es)) (sym more)) in
    let parts : past entries ≡ past (drop (i + 1) entries) ++ past (take (i + 1) entries) = ap past (sym (take-append-drop (i + 1) entries)) ∙ reverse-append (take (i + 1) entries) (drop (i + 1) entries) in
    let grows = different_grow (past (drop (i + 1) entries)) (past (take (i + 1) entries)) in
    let all = ap (λ (h : List Entry). length (different (map (λ (n : Nesting). n.content) (nestings_of h)))) parts in
    omega (arith, many, same, grows, all)
