use Rattle.std.proofs.Common.{◌≡◌, List, ℕ, All, [], ◌∷◌, ◌++◌, length, refl, ap, ap₂, sym, ◌∙◌, subst, append_assoc, append-nil, arith}
use Rattle.std.specs.Vec.Iter.{into_iter_items}
use Rattle.std.proofs.lemmas.List.{map_push}
use Rattle.std.proofs.lemmas.List.Elements.{All-push}
use Rattle.dim_signature.specs.Sig.{Sig}
use Rattle.dim_stack.specs.Names.{IsNamedBy}
use Rattle.dim_history_file.specs.Value.{named_sig, named, AreNamed}
use Rattle.dim_history_file.proofs.Renewing.{is_next, next_named}
use Rattle.dim_history_file.proofs.renaming.renamed_catalogue.Goals as goal

same_sig : {from from2 to to2 : List (List ℕ)} → from ≡ from2 → to ≡ to2 → (s t : Sig) → named_sig to s ≡ named_sig from t → named_sig to2 s ≡ named_sig from2 t
same_sig e f s t h = ap (λ names. named_sig names s) (sym f) ∙ h ∙ ap (λ names. named_sig names t) e

nothing_left : {X : Type 0} (l : List X) → length l ≡ 0 → l ≡ []
nothing_left [] h = refl
nothing_left (x ∷ xs) h = absurd (omega arith)

pub sig-requires : goal.sig-requires
sig-requires c =
    let at = c.loop-sig in
    let steps : into_iter_items at.sig-iterator ≡ c.in-Some.sig ∷ into_iter_items c.next.new.self = c.in-Some.ensures.steps.0 in
    let all = at.invariant.order ∙ c.into_iter-sig-iterator.ensures.into_iter_gives.0 in
    let parts = ap (λ xs. at.yielded ++ xs) (sym steps) ∙ all in
    let named = next_named c.args.from.now c.args.sigs.items at.yielded (into_iter_items c.next.new.self) c.in-Some.sig parts c.requires.named in
    subst (λ names. All (IsNamedBy names) c.in-Some.sig.stacks) (sym c.in_ok-renaming.ensures.from) named

pub append-requires : goal.append-requires
append-requires c =
    let at = c.loop-sig in
    let names = c.args.to.now in
    let from = c.args.from.now in
    let sig = c.in_ok-sig.sig in
    let steps : into_iter_items at.sig-iterator ≡ c.in-Some.sig ∷ into_iter_items c.next.new.self = c.in-Some.ensures.steps.0 in
    let all = at.invariant.order ∙ c.into_iter-sig-iterator.ensures.into_iter_gives.0 in
    let parts = ap (λ xs. at.yielded ++ xs) (sym steps) ∙ all in
    let alike : named_sig names sig ≡ named_sig from c.in-Some.sig =
    same_sig c.in_ok-renaming.ensures.from c.in_ok-renaming.ensures.to sig c.in-Some.sig c.in_ok-sig.ensures.same in
    let by : All (IsNamedBy names) sig.stacks = subst (λ t. All (IsNamedBy t) sig.stacks) c.in_ok-renaming.ensures.to c.in_ok-sig.ensures.named in
    is_next from names c.len.ensures.table.ascending c.len-2.ensures.table.ascending c.args.sigs.items at.yielded (into_iter_items c.next.new.self) at.catalogue.sigs c.in-Some.sig sig
    parts c.requires.catalogue c.requires.named at.invariant.named at.invariant.same by alike

pub loop-sig-preserved : goal.loop-sig-preserved
loop-sig-preserved c =
    let at = c.loop-sig in
    let names = c.args.to.now in
    let from = c.args.from.now in
    let sigs = at.catalogue.sigs in
    let sig = c.in_ok-sig.sig in
    let more = c.in_ok-append.ensures in
    let steps : into_iter_items at.sig-iterator ≡ c.in-Some.sig ∷ into_iter_items c.next.new.self = c.in-Some.ensures.steps.0 in
    let alike : named_sig names sig ≡ named_sig from c.in-Some.sig =
    same_sig c.in_ok-renaming.ensures.from c.in_ok-renaming.ensures.to sig c.in-Some.sig c.in_ok-sig.ensures.same in
    let by : All (IsNamedBy names) sig.stacks = subst (λ t. All (IsNamedBy t) sig.stacks) c.in_ok-renaming.ensures.to c.in_ok-sig.ensures.named in
    record {
      order = append_assoc at.yielded (c.in-Some.sig ∷ []) _ ∙ rw (← steps) at.invariant.order;
      left = let was = at.invariant.left in let gone = c.in-Some.ensures.steps.1 in let short = ap length steps in omega arith;
      same =
          ap (named names) more
          ∙ map_push (named_sig names) sigs sig
          ∙ ap₂ (λ a b. a ++ b ∷ []) at.invariant.same alike
          ∙ sym (map_push (named_sig from) at.yielded c.in-Some.sig);
      named = subst (AreNamed names) (sym more) (All-push (λ (s : Sig). All (IsNamedBy names) s.stacks) sigs sig at.invariant.named by);
    }

pub returns-clause-same : goal.returns-clause-same
returns-clause-same c =
    let at = c.loop-sig in
    let none = c.in-None.ensures.steps in
    let empty : into_iter_items at.sig-iterator ≡ [] = nothing_left _ (sym at.invariant.left ∙ none.0) in
    let all = sym (append-nil at.yielded) ∙ rw empty at at.invariant.order ∙ c.into_iter-sig-iterator.ensures.into_iter_gives.0 in
    at.invariant.same ∙ ap (named c.args.from.now) all
