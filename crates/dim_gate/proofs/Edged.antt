-- What is named by the edges that the index has.
use Rattle.std.proofs.Common.{◌≡◌, ◌≤◌, refl, ap, sym, subst, arith, List, [], ◌∷◌, ◌++◌, length}
use Rattle.std.proofs.lemmas.List.{length-append}
use Rattle.dim_rag.specs.declared.entry.Edge.{Edge}
use Rattle.dim_rag.specs.declared.entry.Entry.{Entry}
use Rattle.dim_rag.specs.Born.{AreByBirth}
use Rattle.dim_signature.specs.Sig.{Sig}
use Rattle.dim_cover.specs.Named.{named, named_from}
use Rattle.dim_cover.proofs.Exports.{new_by_birth}
use Rattle.dim_gate.specs.Invariant.{HasEdges}

-- with a new edge they stand by birth
pub new_sorted : (sigs : List Sig) (es : List Edge) (h : List Entry) (new : Edge) → HasEdges (length sigs) es h → new.birth ≡ length h → AreByBirth (es ++ new ∷ [])
new_sorted [] es h new k b = subst (λ (xs : List Edge). AreByBirth (xs ++ new ∷ [])) (sym (k.none refl)) (λ x i. absurd i, tt)
new_sorted (s ∷ sigs) es h new k b = subst (λ (xs : List Edge). AreByBirth (xs ++ new ∷ [])) (sym (k.all (omega arith))) (new_by_birth h new b)

-- they name what the edges of the history name: no signature is named where none is known
pub named_same : (sigs : List Sig) (es : List Edge) (h : List Entry) (new : Edge) → HasEdges (length sigs) es h → named_from (es ++ new ∷ []) new.birth 0 sigs ≡ named sigs h new
named_same [] es h new k = refl
named_same (s ∷ sigs) es h new k = ap (λ (xs : List Edge). named_from (xs ++ new ∷ []) new.birth 0 (s ∷ sigs)) (k.all (omega arith))

-- no fewer signatures are known with some more
pub no_fewer : (sigs more after : List Sig) → after ≡ sigs ++ more → length sigs ≤ length after
no_fewer sigs more after q = let n = length-append sigs more in let m : length after ≡ length (sigs ++ more) = ap length q in omega (arith, n, m)
