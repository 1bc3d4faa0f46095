-- An edge whose tag isn't wanted agrees with none of the stacks.
use Rattle.std.proofs.Common.{◌≡◌, ℕ, zero, suc, ◌+◌, ◌<◌, Bool, false, refl, ap, sym, ◌∙◌, inl, inr, arith, List, [], ◌∷◌, take, get_or, set}
use Rattle.std.specs.Prelude.{◌%◌, Some, None, option_map, replicate, slice_get}
use Rattle.std.proofs.lemmas.Bool.{cases_lt, false≢true}
use Rattle.std.proofs.lemmas.List.{map-set}
use Rattle.dim_stack.specs.declared.Frame.{Frame}
use Rattle.dim_rag.specs.declared.entry.Edge.{Edge}
use Rattle.dim_cover.specs.Cover.{agrees}
use Rattle.dim_cover.specs.Candidates.{candidate_of}
use Rattle.dim_cover.specs.Index.{AreWanted, no_edge, pair, tag_of, tags_in}
use Rattle.dim_cover.proofs.Fronts.{other_pair}
use Rattle.dim_cover.proofs.Groups.{found_from, found_next}

-- none of the stacks is found
none_found : (d : ℕ) (e : Edge) (k : ℕ) (ss : List (List Frame)) → ((j : ℕ) (s : List Frame) → slice_get ss j ≡ Some s → agrees d s e ≡ false) → found_from d (take d e.stack) k ss ≡ None
none_found d e k [] f = refl
none_found d e k (s ∷ ss) f = found_next d (take d e.stack) k s ss (f zero s refl) ∙ none_found d e (k + 1) ss (λ j x at. f (suc j) x at)

pub unwanted : (d : ℕ) (ss : List (List Frame)) (wanted : List Bool) (e : Edge) → AreWanted d wanted ss → get_or wanted (tag_of (pair e.stack)) false ≡ false → candidate_of d ss e ≡ None
unwanted d ss wanted e w q =
    let far : (j : ℕ) (s : List Frame) → slice_get ss j ≡ Some s → agrees d s e ≡ false =
    λ j s at. elim (cases_lt d 2) [
      | inl less ↦ absurd (false≢true (sym q ∙ w.shallow (omega (arith, less)) (tag_of (pair e.stack)) (let low : pair e.stack % 64 < 64 = omega arith in low)))
      | inr deep ↦ other_pair d s e (omega (arith, deep)) (λ f. false≢true (sym q ∙ ap (λ b. get_or wanted (tag_of b) false) f ∙ w.deep (omega (arith, deep)) j s at))
    ] in
    ap (option_map (λ g. record { t = e.t; l = e.l; birth = e.birth; group = g })) (none_found d e 0 ss far)

-- at first, and as an edge is written
pub no_tags : (n : ℕ) → replicate n 0 ≡ tags_in (replicate n no_edge)
no_tags zero = refl
no_tags (suc n) = ap (λ (xs : List ℕ). 0 ∷ xs) (no_tags n)

pub tags_more : (tags : List ℕ) (edges : List Edge) (slot : ℕ) (e : Edge) → tags ≡ tags_in edges → set tags slot (tag_of (pair e.stack)) ≡ tags_in (set edges slot e)
tags_more tags edges slot e q = ap (λ (xs : List ℕ). set xs slot (tag_of (pair e.stack))) q ∙ sym (map-set (λ (x : Edge). tag_of (pair x.stack)) edges slot e)
