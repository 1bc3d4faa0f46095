-- The cover that a signature has at some depths.
use Rattle.std.proofs.Common.{◌≡◌, ℕ, ◌<◌, ◌≤◌, Bool, true, false, refl, ap, ap₂, sym, ◌∙◌, subst, inl, inr, arith, List, [], ◌∷◌, length}
use Rattle.std.specs.Prelude.{Option, Some, None, if◌then◌else◌}
use Rattle.std.specs.Ordering.{nat_cmp, is_eq, ordering_reverse}
use Rattle.std.specs.declared.cmp.Ordering.{Ordering}
use Rattle.std.specs.declared.cmp.Ordering.TheVariants.{Less, Equal, Greater}
use Rattle.std.specs.Cmp.Lexicographic.{slice_cmp}
use Rattle.std.proofs.lemmas.Cmp.{nat_list_cmp_total}
use Rattle.std.proofs.lemmas.Map.Text.{is_eq-slice_cmp}
use Rattle.std.proofs.lemmas.Option.{MatchOption-at_none, MatchOption-at_some, same_Some}
use Rattle.std.proofs.lemmas.Slice.Eq.{bytes_eq-Decides}
use Rattle.dim_rag.specs.declared.entry.Edge.{Edge}
use Rattle.dim_rag.specs.declared.entry.Entry.{Entry}
use Rattle.dim_rag.specs.declared.entry.Named.{Named}
use Rattle.dim_rag.specs.Born.{In, all_edges}
use Rattle.dim_rag.proofs.Exports.{edges_law, in_parts}
use Rattle.dim_signature.specs.Sig.{Sig}
use Rattle.dim_cover.specs.Cover.{IsCover}
use Rattle.dim_rag.specs.Steps.{births}
use Rattle.dim_cover.specs.Least.{IsNoLater}
use Rattle.dim_cover.specs.Named.{cover_births, cover_if_on, named, named_or, uses, with_new, HasNoCover, HasNone, IsNamed}
use Rattle.dim_cover.proofs.Exports.{named_law}
use Rattle.dim_tune.specs.Asked.{Keeps}
use Rattle.dim_tune.specs.Depths.{with_depth}
use Rattle.dim_tune.specs.Raised.{cover_at, IsAside}
use Rattle.dim_tune.proofs.Agreeing.{cover_low, first_same, used_agrees}

-- a signature's least cover that uses the edge with birth p
record IsBest (es : List Edge) (p : ℕ) (t : Sig) (b : List ℕ) : Type 0 where
  cover : List Edge
  is_cover : IsCover t.depth es t.stacks cover
  uses_new : uses p cover ≡ true
  births_are : births cover ≡ b
  least : (c : List Edge) → IsCover t.depth es t.stacks c → uses p c ≡ true → IsNoLater cover c

-- of two lists of births of which neither is later, each is the other
same_births : (a b : List ℕ) → (slice_cmp nat_cmp a b ≡ Greater → ⊥) → (slice_cmp nat_cmp b a ≡ Greater → ⊥) → a ≡ b
same_births a b f g = go (slice_cmp nat_cmp a b) refl
  where
    go : (o : Ordering) → slice_cmp nat_cmp a b ≡ o → a ≡ b
    go Less e = absurd (g (nat_list_cmp_total.antisymm b a ∙ ap ordering_reverse e))
    go Equal e = (bytes_eq-Decides a b).0 (sym (is_eq-slice_cmp a b) ∙ ap is_eq e)
    go Greater e = absurd (f e)

no_later : (x y : List Edge) (a b : List ℕ) → births x ≡ a → births y ≡ b → IsNoLater x y → slice_cmp nat_cmp a b ≡ Greater → ⊥
no_later x y a b p q k g = k (ap₂ (λ (u v : List ℕ). slice_cmp nat_cmp u v) p q ∙ g)

module _ (h : List Entry) (new : Edge) (birth : new.birth ≡ length h) where
  best : (t : Sig) (b : List ℕ) → cover_if_on (with_new h new) new.birth t ≡ Some b → IsBest (with_new h new) new.birth t b
  best t b q =
      let n : Named = record { sig = 0; births = b } in
      let is : named (t ∷ []) h new ≡ Some n = ap (λ (o : Option (List ℕ)). named_or 0 o None) q in
      let w : IsNamed (with_new h new) new.birth (t ∷ []) n = MatchOption-at_some (HasNone (with_new h new) new.birth (t ∷ [])) (IsNamed (with_new h new) new.birth (t ∷ [])) n is (named_law (t ∷ []) h new birth) in
      let same : t ≡ w.sig = same_Some t w.sig w.sig_is in
      record {
        cover = w.cover;
        is_cover = subst (λ (x : Sig). IsCover x.depth (with_new h new) x.stacks w.cover) (sym same) w.is_cover;
        uses_new = w.uses_new;
        births_are = w.births_are;
        least = λ c k u. w.least c (subst (λ (x : Sig). IsCover x.depth (with_new h new) x.stacks c) same k) u;
      }

  none : (t : Sig) → cover_if_on (with_new h new) new.birth t ≡ None → t.on ≡ true → HasNoCover (with_new h new) new.birth t
  none t q on =
      let is : named (t ∷ []) h new ≡ None = ap (λ (o : Option (List ℕ)). named_or 0 o None) q in
      let w : HasNone (with_new h new) new.birth (t ∷ []) = MatchOption-at_none (HasNone (with_new h new) new.birth (t ∷ [])) (IsNamed (with_new h new) new.birth (t ∷ [])) is (named_law (t ∷ []) h new birth) in
      w 0 t refl on

  only_new : (x : Edge) → In x (with_new h new) → x.birth ≡ new.birth → new ≡ x
  only_new x i q = elim (in_parts x (all_edges h) (new ∷ []) i) [
    | inl j ↦ absurd (let o : x.birth < length h = edges_law.old h x j in omega (arith, o, q, birth))
    | inr j ↦ elim j [ inl r ↦ r | inr k ↦ absurd k ]
  ]

  module _ (s : Sig) where
    -- one that is off has no cover at any depth
    pub off_none : (d : ℕ) → s.on ≡ false → cover_at s d (all_edges h) new ≡ None
    off_none d q = ap (λ (u : Bool). if u then cover_births (with_new h new) new.birth (with_depth d s) else None) q

    -- nor has one of which no stack begins with the innermost frame of the new edge's
    pub aside_none : (d : ℕ) → 1 ≤ d → IsAside s new → cover_at s d (all_edges h) new ≡ None
    aside_none d low aside = by s.on refl
      where
        found : s.on ≡ true → (o : Option (List ℕ)) → cover_at s d (all_edges h) new ≡ o → cover_at s d (all_edges h) new ≡ None
        found on None e = e
        found on (Some b) e =
            let w = best (with_depth d s) b e in
            let u = used_agrees d new.birth (with_new h new) new only_new s.stacks w.cover w.is_cover w.uses_new in
            absurd (aside on u.0 u.1 u.2 (first_same d new.stack u.1 low u.3))

        by : (o : Bool) → s.on ≡ o → cover_at s d (all_edges h) new ≡ None
        by true on = found on (cover_at s d (all_edges h) new) refl
        by false off = off_none d off

    -- one without a cover at a depth has none at a greater
    still_none : (k m : ℕ) → k ≤ m → s.on ≡ true → cover_at s k (all_edges h) new ≡ None → cover_at s m (all_edges h) new ≡ None
    still_none k m low on q = go (cover_at s m (all_edges h) new) refl
      where
        go : (o : Option (List ℕ)) → cover_at s m (all_edges h) new ≡ o → cover_at s m (all_edges h) new ≡ None
        go None e = e
        go (Some b) e =
            let w = best (with_depth m s) b e in
            absurd (none (with_depth k s) q on w.cover (cover_low k m (with_new h new) s.stacks w.cover low w.is_cover) w.uses_new)

    -- one with the same cover at two depths has it at each between
    still_some : (k m d : ℕ) (b : List ℕ) → k ≤ m → m ≤ d → s.on ≡ true → cover_at s k (all_edges h) new ≡ Some b → cover_at s d (all_edges h) new ≡ Some b → cover_at s m (all_edges h) new ≡ Some b
    still_some k m d b low high on q r = go (cover_at s m (all_edges h) new) refl
      where
        go : (o : Option (List ℕ)) → cover_at s m (all_edges h) new ≡ o → cover_at s m (all_edges h) new ≡ Some b
        go None e =
            let w = best (with_depth d s) b r in
            absurd (none (with_depth m s) e on w.cover (cover_low m d (with_new h new) s.stacks w.cover high w.is_cover) w.uses_new)
        go (Some x) e =
            let u = best (with_depth k s) b q in
            let v = best (with_depth m s) x e in
            let w = best (with_depth d s) b r in
            let f = no_later v.cover w.cover x b v.births_are w.births_are (v.least w.cover (cover_low m d (with_new h new) s.stacks w.cover high w.is_cover) w.uses_new) in
            let g = no_later u.cover v.cover b x u.births_are v.births_are (u.least v.cover (cover_low k m (with_new h new) s.stacks v.cover low v.is_cover) v.uses_new) in
            e ∙ ap (λ (y : List ℕ). Some y) (same_births x b f g)

    -- what keeps to what was named at two depths does so at each between
    pub keeps_between : (r : Option Named) (i k m d : ℕ) → k ≤ m → m ≤ d → Keeps r i (cover_at s k (all_edges h) new) → Keeps r i (cover_at s d (all_edges h) new) → Keeps r i (cover_at s m (all_edges h) new)
    keeps_between r i k m d low high a b = by s.on refl
      where
        on_between : (r : Option Named) → s.on ≡ true → Keeps r i (cover_at s k (all_edges h) new) → Keeps r i (cover_at s d (all_edges h) new) → Keeps r i (cover_at s m (all_edges h) new)
        on_between None on a b = still_none k m low on a
        on_between (Some n) on a b = elim a [
          | inl less ↦ inl less
          | inr more ↦ elim more [
            | inl v ↦ inr (inl (v.0, still_none k m low on v.1))
            | inr v ↦ elim b [
              | inl less ↦ absurd (omega (arith, less, v.0))
              | inr own ↦ elim own [
                | inl u ↦ absurd (omega (arith, u.0, v.0))
                | inr u ↦ inr (inr (v.0, still_some k m d n.births low high on v.1 u.1))
              ]
            ]
          ]
        ]

        by : (o : Bool) → s.on ≡ o → Keeps r i (cover_at s m (all_edges h) new)
        by true on = on_between r on a b
        by false off = subst (λ (x : Option (List ℕ)). Keeps r i x) (off_none k off ∙ sym (off_none m off)) a
