use Rattle.std.proofs.Common.{ap, ap₂, sym, ◌∙◌, map, List, subst, ◌++◌}
use Rattle.dim_gate.specs.ByPlace.{LegalLaw}
use Rattle.dim_rag.specs.History.{past}
use Rattle.dim_signature.specs.Sig.{Sig, fresh}
use Rattle.dim_predict.specs.declared.key.Key.{Key}
use Rattle.dim_predict.specs.declared.places.Places.{Places}
use Rattle.dim_predict.specs.Adopted.{AreDifferent}
use Rattle.dim_predict.specs.Pairs.{stacks_of_places}
use Rattle.dim_predict.proofs.Different.{found_different}
use Rattle.dim_predict.proofs.Keys.{no_key}
use Rattle.dim_predict.proofs.Ranging.{all_wider}
use Rattle.dim_predict.proofs.predicting.candidates_kept.Goals as goal

pub searched-requires-clause-in_range : goal.searched-requires-clause-in_range
searched-requires-clause-in_range c =
    let legal = c.requires.legal in
    let law : LegalLaw = c.legal_law.ensures in
    let h = past c.args.trace.now.entries in
    all_wider legal.gate.threads legal.gate.locks 32 256 legal.threads legal.locks h (law.in_range legal.gate h legal.legal)

pub returns-clause-found : goal.returns-clause-found
returns-clause-found c =
    let named = ap₂ (λ (keys : List Key) (pairs : List Places). map (stacks_of_places keys no_key) pairs) c.deref.ensures.value c.deref-2.ensures.value in
    c.in_ok-signatures_of.ensures no_key ∙ ap (map (fresh c.args.depth)) (named ∙ c.in_ok-search.ensures.found no_key)

pub returns-clause-different : goal.returns-clause-different
returns-clause-different c =
    let sigs = c.args.history.now.catalogue.sigs in
    subst (λ (xs : List Sig). AreDifferent (sigs ++ xs)) (sym (returns-clause-found c)) (found_different sigs c.args.depth c.args.trace.now.entries c.len-known.ensures.catalogue.distinct)
