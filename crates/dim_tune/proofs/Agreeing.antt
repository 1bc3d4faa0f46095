-- Stacks that agree at a depth agree at each lesser one, so covers stay covers.
use Rattle.std.proofs.Common.{◌≡◌, ℕ, zero, suc, ◌==◌, ◌≤◌, true, refl, ap, sym, subst, inl, inr, arith, List, [], ◌∷◌, take}
use Rattle.std.specs.Prelude.{Some, slice_get}
use Rattle.std.specs.Cmp.Lexicographic.{pointwise}
use Rattle.std.proofs.lemmas.Bool.{false≢true, and_parts, and_from, or_cases}
use Rattle.std.proofs.lemmas.Bool.Decides.{Decides-eqb}
use Rattle.dim_stack.specs.declared.Frame.{Frame}
use Rattle.dim_stack.specs.Order.{frame_eq}
use Rattle.dim_stack.proofs.Exports.{Decides-frame}
use Rattle.dim_rag.specs.declared.entry.Edge.{Edge}
use Rattle.dim_rag.specs.Born.{In}
use Rattle.dim_cover.specs.Cover.{IsCover, agrees}
use Rattle.dim_cover.specs.Named.{uses}

agree_low : (k m : ℕ) (a b : List Frame) → k ≤ m → pointwise frame_eq (take m a) (take m b) ≡ true → pointwise frame_eq (take k a) (take k b) ≡ true
agree_low zero m a b low q = refl
agree_low (suc k) zero a b low q = absurd (omega (arith, low))
agree_low (suc k) (suc m) [] [] low q = refl
agree_low (suc k) (suc m) [] (y ∷ b) low q = absurd (false≢true q)
agree_low (suc k) (suc m) (x ∷ a) [] low q = absurd (false≢true q)
agree_low (suc k) (suc m) (x ∷ a) (y ∷ b) low q =
    let both = and_parts (frame_eq x y) (pointwise frame_eq (take m a) (take m b)) q in
    and_from (frame_eq x y) (pointwise frame_eq (take k a) (take k b)) both.0 (agree_low k m a b (omega (arith, low)) both.1)

-- a cover at a depth is one at each lesser depth
pub cover_low : (k m : ℕ) (es : List Edge) (ss : List (List Frame)) (c : List Edge) → k ≤ m → IsCover m es ss c → IsCover k es ss c
cover_low k m es [] [] low w = tt
cover_low k m es [] (e ∷ c) low w = absurd w
cover_low k m es (s ∷ ss) [] low w = absurd w
cover_low k m es (s ∷ ss) (e ∷ c) low w = (w.0, agree_low k m e.stack s low w.1, w.2, cover_low k m es ss c low w.3)

first_one : (a b : List Frame) → pointwise frame_eq (take 1 a) (take 1 b) ≡ true → take 1 b ≡ take 1 a
first_one [] [] q = refl
first_one [] (y ∷ b) q = absurd (false≢true q)
first_one (x ∷ a) [] q = absurd (false≢true q)
first_one (x ∷ a) (y ∷ b) q = ap (λ (z : Frame). z ∷ []) (sym ((Decides-frame x y).0 (and_parts (frame_eq x y) true q).0))

-- stacks that agree have the same innermost frame
pub first_same : (d : ℕ) (a b : List Frame) → 1 ≤ d → pointwise frame_eq (take d a) (take d b) ≡ true → take 1 b ≡ take 1 a
first_same d a b low q = first_one a b (agree_low 1 d a b low q)

-- of a cover that uses the edge with a birth which only this one has, the edge agrees with a stack
pub used_agrees : (d p : ℕ) (es : List Edge) (new : Edge) → ((x : Edge) → In x es → x.birth ≡ p → new ≡ x) → (ss : List (List Frame)) (c : List Edge) → IsCover d es ss c → uses p c ≡ true
    → (j : ℕ) × (x : List Frame) × (slice_get ss j ≡ Some x) × (agrees d x new ≡ true)
used_agrees d p es new only [] [] w u = absurd (false≢true u)
used_agrees d p es new only [] (e ∷ c) w u = absurd w
used_agrees d p es new only (s ∷ ss) [] w u = absurd w
used_agrees d p es new only (s ∷ ss) (e ∷ c) w u = elim (or_cases (e.birth == p) (uses p c) u) [
  | inl q ↦ (0, s, refl, subst (λ (x : Edge). agrees d s x ≡ true) (sym (only e w.0 ((Decides-eqb e.birth p).0 q))) w.1)
  | inr q ↦ let r = used_agrees d p es new only ss c w.3 q in (suc r.0, r.1, r.2, r.3)
]
