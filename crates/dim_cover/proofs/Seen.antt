-- The edges of the threads and on the locks that were looked at.
use Rattle.std.proofs.Common.{◌≡◌, ℕ, ◌+◌, ◌<◌, ap, sym, ◌∙◌, subst, inl, inr, ◌⊎◌, arith, List, [], ◌∷◌}
use Rattle.std.specs.Prelude.{Option, Some, None, IfSome}
use Rattle.std.proofs.lemmas.Bool.{cases_lt}
use Rattle.std.proofs.lemmas.Option.{same_Some}
use Rattle.dim_base.specs.declared.Tid.{Tid}
use Rattle.dim_rag.specs.declared.entry.Edge.{Edge}
use Rattle.dim_rag.specs.declared.entry.Entry.{Entry}
use Rattle.dim_rag.specs.History.{allow, hold, last, grant, hold_by}
use Rattle.dim_rag.specs.Fits.{AreInRange}
use Rattle.dim_rag.specs.Born.{In, all_edges, IsEdge}
use Rattle.dim_rag.proofs.Exports.{edges_law as law, hold_names}
use Rattle.dim_cover.proofs.Ranges.{edge_range}

-- an edge of one of the first t threads that allows, or on one of the first l locks that holds
abbrev pub IsSeen : List Entry → ℕ → ℕ → Edge → Type 0
IsSeen h t l x = ((allow x.t.0 x.l.0 h ≡ Some x) × (x.t.0 < t)) ⊎ ((hold x.t.0 x.l.0 h ≡ Some x) × (x.l.0 < l))

pub seen_edge : (h : List Entry) (t l : ℕ) (x : Edge) → IsSeen h t l x → IsEdge h x
seen_edge h t l x (inl a) = inl a.0
seen_edge h t l x (inr a) = inr a.0

-- an edge is not both an allow and a hold edge
hold_only : (t l : ℕ) (x y : Edge) (w : List Entry) → grant w ≡ Some x → hold_by t l w ≡ Some y → ⊥
hold_only t l x y [] p q = let n : None ≡ Some x = p in cc
hold_only t l x y (e ∷ h) p q = go e p q
  where
    go : (e : Entry) → grant (e ∷ h) ≡ Some x → hold_by t l (e ∷ h) ≡ Some y → ⊥
    go (Entry.Go u m s) p q = cc
    go (Entry.Yield u m s sig b) p q = cc
    go (Entry.Got u m) p q = cc
    go (Entry.Free u m) p q = cc
    go (Entry.Took u m s) p q = cc
    go (Entry.Miss u m s why) p q = cc
    go (Entry.End u why) p q = cc
    go (Entry.Break set u) p q = cc
    go (Entry.Learn b) p q = cc

-- all are seen
pub all_seen : (n m : ℕ) (h : List Entry) → AreInRange n m h → (x : Edge) → In x (all_edges h) → IsSeen h n m x
all_seen n m h r x i = let e : IsEdge h x = law.only h x i in let b = edge_range n m x h r e in elim e [ inl a ↦ inl (a, b.0) | inr a ↦ inr (a, b.1) ]

-- with an edge, where there is one, that wasn't seen before
pub record SeesMore (h : List Entry) (t l u m : ℕ) (o : Option Edge) : Type 0 where
  pub wider : (x : Edge) → IsSeen h t l x → IsSeen h u m x
  pub back : (x : Edge) → IsSeen h u m x → IsSeen h t l x ⊎ (o ≡ Some x)
  pub new : (x : Edge) → o ≡ Some x → IsSeen h u m x × (IsSeen h t l x → ⊥)

-- the next thread is seen
pub thread_seen : (h : List Entry) (t : ℕ) (o : Option Edge) → IfSome o (λ e. (e.t ≡ record { 0 = t }) × (allow t e.l.0 h ≡ Some e)) → ((m : ℕ) (x : Edge) → allow t m h ≡ Some x → o ≡ Some x) → SeesMore h t 0 (t + 1) 0 o
thread_seen h t o i s = record {
  wider = λ x r. elim r [ inl a ↦ inl (a.0, (let lt : x.t.0 < t = a.1 in omega (arith, lt))) | inr a ↦ inr a ];
  back = λ x r. elim r [
    | inl a ↦ elim (cases_lt x.t.0 t) [
      | inl lt ↦ inl (inl (a.0, lt))
      | inr le ↦ let e : x.t.0 ≡ t = (let lt : x.t.0 < t + 1 = a.1 in omega (arith, lt, le)) in inr (s x.l.0 x (subst (λ (y : ℕ). allow y x.l.0 h ≡ Some x) e a.0))
    ]
    | inr a ↦ inl (inr a)
  ];
  new = own o i;
}
  where
    own : (o : Option Edge) → IfSome o (λ e. (e.t ≡ record { 0 = t }) × (allow t e.l.0 h ≡ Some e)) → (x : Edge) → o ≡ Some x → IsSeen h (t + 1) 0 x × (IsSeen h t 0 x → ⊥)
    own None i e q = absurd (let n : None ≡ Some e = q in cc)
    own (Some x) i e q =
        let same : x ≡ e = same_Some x e q in
        let num : e.t.0 ≡ t = ap (λ (z : Edge). z.t.0) (sym same) ∙ ap (λ (y : Tid). y.0) i.0 in (
          inl (subst (λ (z : Edge). allow z.t.0 z.l.0 h ≡ Some z) same (subst (λ (y : ℕ). allow y x.l.0 h ≡ Some x) (sym (ap (λ (y : Tid). y.0) i.0)) i.1), omega (arith, num)),
          λ r. elim r [ inl a ↦ (let lt : e.t.0 < t = a.1 in absurd (omega (arith, lt, num))) | inr a ↦ (let lt : e.l.0 < 0 = a.1 in absurd (omega (arith, lt))) ],
        )

-- the next lock is seen
pub lock_seen : (h : List Entry) (n l : ℕ) (o : Option Edge) → IfSome o (λ e. hold e.t.0 l h ≡ Some e) → ((t : ℕ) (x : Edge) → hold t l h ≡ Some x → o ≡ Some x) → SeesMore h n l n (l + 1) o
lock_seen h n l o i s = record {
  wider = λ x r. elim r [ inl a ↦ inl a | inr a ↦ inr (a.0, (let lt : x.l.0 < l = a.1 in omega (arith, lt))) ];
  back = λ x r. elim r [
    | inl a ↦ inl (inl a)
    | inr a ↦ elim (cases_lt x.l.0 l) [
      | inl lt ↦ inl (inr (a.0, lt))
      | inr le ↦ let e : x.l.0 ≡ l = (let lt : x.l.0 < l + 1 = a.1 in omega (arith, lt, le)) in inr (s x.t.0 x (subst (λ (y : ℕ). hold x.t.0 y h ≡ Some x) e a.0))
    ]
  ];
  new = own o i;
}
  where
    own : (o : Option Edge) → IfSome o (λ e. hold e.t.0 l h ≡ Some e) → (x : Edge) → o ≡ Some x → IsSeen h n (l + 1) x × (IsSeen h n l x → ⊥)
    own None i e q = absurd (let z : None ≡ Some e = q in cc)
    own (Some x) i e q =
        let same : x ≡ e = same_Some x e q in
        let held : hold e.t.0 l h ≡ Some e = subst (λ (z : Edge). hold z.t.0 l h ≡ Some z) same i in
        let num : e.l.0 ≡ l = (hold_names e.t.0 l e h held).1 in
        let own : hold e.t.0 e.l.0 h ≡ Some e = ap (λ y. hold e.t.0 y h) num ∙ held in (
          inr (own, omega (arith, num)),
          λ r. elim r [ inl a ↦ hold_only e.t.0 e.l.0 e e (last e.t.0 e.l.0 h) a.0 own | inr a ↦ (let lt : e.l.0 < l = a.1 in absurd (omega (arith, lt, num))) ],
        )
