use Rattle.std.proofs.Common.{◌≤◌, ap, sym, ◌∙◌, subst, subst₂, List, ◌++◌, length, arith}
use Rattle.std.specs.Prelude.{All}
use Rattle.std.proofs.lemmas.List.{length-map}
use Rattle.dim_execution.specs.Start.{gate_of}
use Rattle.dim_gate.specs.ByPlace.{LegalLaw}
use Rattle.dim_rag.specs.Fits.{AreInRange}
use Rattle.dim_rag.specs.History.{past}
use Rattle.dim_signature.specs.Sig.{Sig, fresh}
use Rattle.dim_history_file.specs.Grammar.{AreNear}
use Rattle.dim_history_file.specs.Value.{AreNamed}
use Rattle.dim_stack.specs.Names.{IsNamedBy}
use Rattle.dim_predict.specs.declared.key.Key.{Key}
use Rattle.dim_predict.specs.declared.places.Places.{Places}
use Rattle.dim_predict.specs.Adopted.{AreDifferent, adopted}
use Rattle.dim_predict.specs.Candidates.{candidate_stacks, candidates_of}
use Rattle.dim_predict.specs.Nestings.{contents}
use Rattle.dim_predict.specs.Pairs.{AreWithin, stacks_of_places}
use Rattle.dim_predict.proofs.Different.{found_different}
use Rattle.dim_predict.proofs.Few.{adopted_keeps, adopted_take, all_take, different_take, first_found}
use Rattle.dim_predict.proofs.Functions.{functions_law}
use Rattle.dim_predict.proofs.Keys.{no_key}
use Rattle.dim_predict.proofs.prediction.predicted.Goals as goal

pub searched-requires-clause-fits : goal.searched-requires-clause-fits
searched-requires-clause-fits c =
    let law : LegalLaw = c.legal_law.ensures in
    law.fits (gate_of c.args.program.now c.args.history.catalogue.sigs c.args.trace.now.depth) (past c.args.trace.now.entries) c.requires.executes.legal

pub searched-requires-clause-in_range : goal.searched-requires-clause-in_range
searched-requires-clause-in_range c =
    let law : LegalLaw = c.legal_law.ensures in
    let p = c.args.program.now in
    let h = past c.args.trace.now.entries in
    subst₂ (λ n m. AreInRange n m h) (sym c.threads-threads.ensures.value) (sym c.locks-locks.ensures.value)
    (law.in_range (gate_of p c.args.history.catalogue.sigs c.args.trace.now.depth) h c.requires.executes.legal)

pub signatures_of-requires-clause-within : goal.signatures_of-requires-clause-within
signatures_of-requires-clause-within c =
    let s = c.in_ok-search.search in
    subst₂ (λ (ks : List Key) (ps : List Places). All (AreWithin (length ks)) ps) (sym c.deref.ensures.value) (sym (c.deref-2.ensures.value ∙ c.truncate.ensures.items))
    (all_take (AreWithin (length s.keys.items)) 4080 s.pairs.items c.in_ok-search.ensures.within)

pub adopt-requires-clause-different : goal.adopt-requires-clause-different
adopt-requires-clause-different c =
    let s = c.in_ok-search.search in
    let sigs = c.args.history.catalogue.sigs in
    let entries = c.args.trace.now.entries in
    let found = c.deref-3.ensures.value ∙ first_found sigs c.args.depth entries s.keys.items c.deref.result.now s.pairs.items c.truncate.new.self.items c.deref-2.result.now c.in_ok-found.found.items c.deref.ensures.value c.truncate.ensures.items c.deref-2.ensures.value (c.in_ok-found.ensures no_key) (c.in_ok-search.ensures.found no_key) in
    subst (λ (xs : List Sig). AreDifferent (sigs ++ xs)) (sym found) (different_take 4080 sigs (candidates_of sigs c.args.depth entries) (found_different sigs c.args.depth entries c.len-known.ensures.catalogue.distinct))

pub adopt-requires-clause-named : goal.adopt-requires-clause-named
adopt-requires-clause-named c =
    let s = c.in_ok-search.search in
    let names = c.args.history.names in
    let sigs = c.args.history.catalogue.sigs in
    let t = c.args.trace.now in
    let found = c.deref-3.ensures.value ∙ first_found sigs c.args.depth t.entries s.keys.items c.deref.result.now s.pairs.items c.truncate.new.self.items c.deref-2.result.now c.in_ok-found.found.items c.deref.ensures.value c.truncate.ensures.items c.deref-2.ensures.value (c.in_ok-found.ensures no_key) (c.in_ok-search.ensures.found no_key) in
    subst (AreNamed names) (sym found) (all_take (λ (x : Sig). All (IsNamedBy names) x.stacks) 4080 (candidates_of sigs c.args.depth t.entries) (functions_law c.args.program.now names t c.requires.trace sigs c.args.depth).0)

pub returns-clause-adopted : goal.returns-clause-adopted
returns-clause-adopted c =
    let s = c.in_ok-search.search in
    let names = c.args.history.names in
    let sigs = c.args.history.catalogue.sigs in
    let entries = c.args.trace.now.entries in
    let found = c.deref-3.ensures.value ∙ first_found sigs c.args.depth entries s.keys.items c.deref.result.now s.pairs.items c.truncate.new.self.items c.deref-2.result.now c.in_ok-found.found.items c.deref.ensures.value c.truncate.ensures.items c.deref-2.ensures.value (c.in_ok-found.ensures no_key) (c.in_ok-search.ensures.found no_key) in
    c.in_ok-history.ensures.adopted ∙ ap (adopted names sigs) found ∙ adopted_take names sigs (candidates_of sigs c.args.depth entries) 4080 (omega arith)

pub returns-clause-candidates : goal.returns-clause-candidates
returns-clause-candidates c =
    let s = c.in_ok-search.search in
    let cs = candidate_stacks c.args.history.catalogue.sigs (contents c.args.trace.now.entries) in
    let stacks = ap length (c.in_ok-search.ensures.found no_key) in
    let pairs = length-map s.pairs.items (stacks_of_places s.keys.items no_key) in
    let sigs = length-map cs (fresh c.args.depth) in
    omega (arith, c.len-candidates.ensures, s.pairs.ok.0, pairs, stacks, sigs)

pub returns-clause-near : goal.returns-clause-near
returns-clause-near c = λ near.
    let names = c.args.history.names in
    let sigs = c.args.history.catalogue.sigs in
    let t = c.args.trace.now in
    subst AreNear (sym (returns-clause-adopted c)) (adopted_keeps (λ (x : Sig). All (λ stack. All (λ f. f.at ≤ 65535) stack) x.stacks) names sigs (candidates_of sigs c.args.depth t.entries) near (functions_law c.args.program.now names t c.requires.trace sigs c.args.depth).1)
