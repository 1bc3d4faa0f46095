use Rattle.std.proofs.Common.{◌≡◌, ◌-◌, ◌++◌, ◌∷◌, [], ◌∙◌, List, ap, sym, subst, arith, length, take}
use Rattle.std.proofs.lemmas.List.{length_push, take-append-le}
use Rattle.std.proofs.Math.Seq.{take-length}
use Rattle.dim_signature.specs.Sig.{Sig, fresh}
use Rattle.dim_signature.specs.Catalogue.{Contents}
use Rattle.dim_cover.specs.Shelf.{IsShelf}
use Rattle.dim_gate.proofs.knowledge.enter_learnt.Goals as goal

-- the signatures before the last one
front : (sigs : List Sig) (s : Sig) → take (length (sigs ++ s ∷ []) - 1) (sigs ++ s ∷ []) ≡ sigs
front sigs s =
    ap (λ n. take n (sigs ++ s ∷ [])) (let e = length_push sigs s in let k : length (sigs ++ s ∷ []) - 1 ≡ length sigs = omega (arith, e) in k)
    ∙ take-append-le (length sigs) sigs (s ∷ []) (omega arith)
    ∙ take-length sigs

pub learn-requires-2-clause-shelf : goal.learn-requires-2-clause-shelf
learn-requires-2-clause-shelf c =
    let s : Sig = fresh c.args.depth c.as_slice.result.now in
    let new : c.learn.new.self.sigs ≡ c.args.catalogue.now.sigs ++ s ∷ [] = ap (λ (x : Contents). x.sigs) c.learn.ensures.learnt in
    subst (λ (xs : List Sig). IsShelf c.args.shelf.now xs) (sym (ap (λ (xs : List Sig). take (length xs - 1) xs) new ∙ front c.args.catalogue.now.sigs s)) c.requires.shelf
