use Rattle.std.proofs.Common.{ap, sym, ◌∙◌, subst, map, List, length}
use Rattle.std.specs.Prelude.{All}
use Rattle.dim_signature.specs.Sig.{Sig}
use Rattle.dim_predict.specs.declared.key.Key.{Key}
use Rattle.dim_predict.specs.Candidates.{candidate_stacks}
use Rattle.dim_predict.specs.Keys.{content_of}
use Rattle.dim_predict.specs.Nestings.{contents}
use Rattle.dim_predict.specs.Pairs.{AreWithin, stacks_of_places}
use Rattle.dim_predict.proofs.Repeats.{different_found}
use Rattle.dim_predict.proofs.search.searched.Goals as goal

pub returns-clause-found : goal.returns-clause-found
returns-clause-found c = λ d.
    let sigs = c.args.known.now.sigs in
    let known = map (λ (s : Sig). s.stacks) sigs in
    let told = ap (λ (keys : List Key). candidate_stacks sigs (map content_of keys)) c.deref.ensures.value in
    sym (ap (λ (keys : List Key). map (stacks_of_places keys d) c.in_ok-pairs.pairs.items) c.deref.ensures.value) ∙ c.in_ok-pairs.ensures.found d ∙ told
    ∙ ap (candidate_stacks sigs) c.in_ok-keys.ensures.found ∙ sym (different_found known (contents c.args.trace.now.entries))

pub returns-clause-within : goal.returns-clause-within
returns-clause-within c = subst (λ (keys : List Key). All (AreWithin (length keys)) c.in_ok-pairs.pairs.items) c.deref.ensures.value c.in_ok-pairs.ensures.within
