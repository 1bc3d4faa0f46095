-- Where no edge agrees with one of the stacks, there is no cover.
use Rattle.std.proofs.Common.{◌≡◌, ℕ, zero, suc, refl, ap, ◌∙◌, List, [], ◌∷◌, map}
use Rattle.std.specs.Prelude.{filter, option_map, slice_get, Some, None}
use Rattle.std.specs.List.{find, flat_map}
use Rattle.std.proofs.lemmas.Option.{same_Some}
use Rattle.dim_stack.specs.declared.Frame.{Frame}
use Rattle.dim_rag.specs.declared.entry.Edge.{Edge}
use Rattle.dim_signature.specs.Sig.{Sig}
use Rattle.dim_cover.specs.Cover.{agrees, is_apart, covers}
use Rattle.dim_cover.specs.Index.{agreeing}
use Rattle.dim_rag.specs.Steps.{births}
use Rattle.dim_cover.specs.Named.{uses, cover_births}

-- the edges before no cover of the rest
flat_none : (es : List Edge) (rest : List (List Edge)) → rest ≡ [] → flat_map (λ (e : Edge). map (λ (c : List Edge). e ∷ c) (filter (is_apart e) rest)) es ≡ []
flat_none [] rest q = refl
flat_none (e ∷ es) rest q =
    ap (λ (r : List (List Edge)). flat_map (λ (x : Edge). map (λ (c : List Edge). x ∷ c) (filter (is_apart x) r)) (e ∷ es)) q
    ∙ flat_none es [] refl

no_covers : (d : ℕ) (es : List Edge) (ss : List (List Frame)) (i : ℕ) (s : List Frame) → slice_get ss i ≡ Some s → agreeing d s es ≡ [] → covers d es ss ≡ []
no_covers d es [] i s at q = absurd (let n : None ≡ Some s = at in cc)
no_covers d es (x ∷ ss) zero s at q =
    ap (λ (fs : List Edge). flat_map (λ (y : Edge). map (λ (c : List Edge). y ∷ c) (filter (is_apart y) (covers d es ss))) fs) (ap (λ (y : List Frame). filter (agrees d y) es) (same_Some x s at) ∙ q)
no_covers d es (x ∷ ss) (suc i) s at q = flat_none (filter (agrees d x) es) (covers d es ss) (no_covers d es ss i s at q)

-- nor one that uses an edge
pub lacking : (es : List Edge) (p : ℕ) (sig : Sig) (i : ℕ) (s : List Frame) → slice_get sig.stacks i ≡ Some s → agreeing sig.depth s es ≡ [] → cover_births es p sig ≡ None
lacking es p sig i s at q = ap (λ (cs : List (List Edge)). option_map births (find (uses p) cs)) (no_covers sig.depth es sig.stacks i s at q)
