-- Sources that grow.
use Rattle.std.proofs.Common.{◌≡◌, ◌<◌, ◌+◌, ℕ, List, [], ◌∷◌, ◌++◌, length, map, get_or, set, suc, zero, arith, refl, sym, ap, subst}
use Rattle.std.proofs.lemmas.List.{length-append}
use Rattle.std.proofs.lemmas.List.Sums.{sum_by-cons}
use Rattle.dim_asm.specs.Source.{Draft, DraftFunction, with_draft, draft_count}

abbrev more : Draft → DraftFunction → DraftFunction
more d f = record f { drafts = f.drafts ++ d ∷ [] }

pub with_draft-set : (d : Draft) (funcs : List DraftFunction) (i : ℕ) (f : DraftFunction) → i + 1 ≡ length funcs → f ≡ get_or funcs i f → set funcs i (more d f) ≡ with_draft d funcs
with_draft-set d [] i f e is = absurd (omega arith)
with_draft-set d (g ∷ []) i f e is =
    let last : i ≡ 0 = omega arith in
    subst (λ k. f ≡ get_or (g ∷ []) k f → set (g ∷ []) k (more d f) ≡ more d g ∷ []) (sym last) (λ here. ap (λ h. more d h ∷ []) here) is
with_draft-set d (g ∷ h ∷ funcs) zero f e is = absurd (omega arith)
with_draft-set d (g ∷ h ∷ funcs) (suc i) f e is = ap (λ fs. g ∷ fs) (with_draft-set d (h ∷ funcs) i f (omega arith) is)

pub names-with_draft : (d : Draft) (funcs : List DraftFunction) → map (λ f. f.name) (with_draft d funcs) ≡ map (λ f. f.name) funcs
names-with_draft d [] = refl
names-with_draft d (f ∷ []) = refl
names-with_draft d (f ∷ g ∷ funcs) = ap (λ ns. f.name ∷ ns) (names-with_draft d (g ∷ funcs))

pub draft_count-cons : (f : DraftFunction) (funcs : List DraftFunction) → draft_count (f ∷ funcs) ≡ length f.drafts + draft_count funcs
draft_count-cons f funcs = sum_by-cons (λ g. length g.drafts) f funcs

pub draft_count-with_draft : (d : Draft) (funcs : List DraftFunction) → 0 < length funcs → draft_count (with_draft d funcs) ≡ draft_count funcs + 1
draft_count-with_draft d [] some = absurd (omega arith)
draft_count-with_draft d (f ∷ []) some = omega (arith, length-append f.drafts (d ∷ []), draft_count-cons (more d f) [], draft_count-cons f [])
draft_count-with_draft d (f ∷ g ∷ funcs) some =
    omega (arith, draft_count-with_draft d (g ∷ funcs) (omega arith), draft_count-cons f (with_draft d (g ∷ funcs)), draft_count-cons f (g ∷ funcs))
