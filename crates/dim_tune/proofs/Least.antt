-- The least depth, entry by entry.
use Rattle.std.proofs.Common.{◌≡◌, ℕ, ◌+◌, ◌≤◌, ◌⊎◌, refl, ap, sym, ◌∙◌, subst, inl, inr, arith, List, [], ◌∷◌}
use Rattle.std.specs.Prelude.{Option, Some, None, MatchOption, slice_get}
use Rattle.std.proofs.lemmas.Bool.{cases_Bool, cases_lt, cases_order}
use Rattle.std.proofs.lemmas.Option.{none-some, same_Some}
use Rattle.dim_rag.specs.declared.entry.Edge.{Edge}
use Rattle.dim_rag.specs.declared.entry.Entry.{Entry}
use Rattle.dim_rag.specs.Born.{all_edges}
use Rattle.dim_signature.specs.Sig.{Sig}
use Rattle.dim_cover.specs.Named.{named, with_new}
use Rattle.dim_gate.specs.Gate.{Constants}
use Rattle.dim_gate.specs.Known.{known_sigs}
use Rattle.dim_gate.specs.Legal.{IsLegalAfter, Legal}
use Rattle.dim_tune.specs.Asked.{asked, recorded, Keeps}
use Rattle.dim_tune.specs.Depths.{at_depth, IsLeastDepth}
use Rattle.dim_tune.specs.Laws.{BetweenLaw, OneLaw}
use Rattle.dim_tune.specs.Raised.{cover_at, IsAside, IsNext, IsRaised}
use Rattle.dim_tune.proofs.Answering.{asked_birth, legal_with, recorded_is}
use Rattle.dim_tune.proofs.Covering.{aside_none, keeps_between, off_none}
use Rattle.dim_tune.proofs.Knowing.{at_known, changed_same, known_changed}
use Rattle.dim_tune.proofs.Naming.{kept, stays}

module _ (c : Constants) (h : List Entry) (e : Entry) (i : ℕ) (s : Sig) (at : slice_get c.loaded i ≡ Some s) (here : IsLegalAfter c h e) where
  -- where the entry is legal with the signature at a depth, what it names keeps to it
  to_keeps : (d : ℕ) (new : Edge) → asked e h ≡ Some new → IsLegalAfter (at_depth i d c) h e → Keeps (recorded e) i (cover_at s d (all_edges h) new)
  to_keeps d new a k =
      kept (with_new h new) new.birth d i 0 i (known_sigs c.loaded c.depth h) s (recorded e) (let q : i ≡ 0 + i = omega arith in q) (at_known c h i s at) (recorded_is c h e new here a)
      (sym (ap (λ (x : List Sig). named x h new) (known_changed c h i d s at)) ∙ recorded_is (at_depth i d c) h e new k a)

  -- and the other way round
  from_keeps : (d : ℕ) → ((new : Edge) → asked e h ≡ Some new → Keeps (recorded e) i (cover_at s d (all_edges h) new)) → IsLegalAfter (at_depth i d c) h e
  from_keeps d f =
      legal_with c h i d s at e here (λ new a.
      stays (with_new h new) new.birth d i 0 i (known_sigs c.loaded c.depth h) s (recorded e) (let q : i ≡ 0 + i = omega arith in q) (at_known c h i s at) (recorded_is c h e new here a) (f new a))

  own_depth : at_depth i s.depth c ≡ c
  own_depth = let f : List Sig → Constants = λ x. record c { loaded = x } in ap f (changed_same i s c.loaded at)

  own_keeps : (new : Edge) → asked e h ≡ Some new → Keeps (recorded e) i (cover_at s s.depth (all_edges h) new)
  own_keeps new a = to_keeps s.depth new a (subst (λ (x : Constants). IsLegalAfter x h e) (sym own_depth) here)

  -- legal at a depth, it is legal at each up to the signature's own
  between : (k m : ℕ) → k ≤ m → m ≤ s.depth → IsLegalAfter (at_depth i k c) h e → IsLegalAfter (at_depth i m c) h e
  between k m low high w = from_keeps m (λ new a. keeps_between h new (asked_birth e h new a) s (recorded e) i k m s.depth low high (to_keeps k new a w) (own_keeps new a))

  -- where it is asked for no edge, it is legal at each depth
  at_each : (d : ℕ) → asked e h ≡ None → IsLegalAfter (at_depth i d c) h e
  at_each d none = from_keeps d (λ new a. absurd (none-some new (sym none ∙ a)))

  -- and else at the one to which the signature is raised
  at_raised : (new : Edge) (d to : ℕ) → asked e h ≡ Some new → IsRaised s i (all_edges h) e new d to → IsLegalAfter (at_depth i to c) h e
  at_raised new d to a r =
      from_keeps to (λ x b. subst (λ (y : Edge). Keeps (recorded e) i (cover_at s to (all_edges h) y)) (same_Some new x (sym a ∙ b)) (elim (cases_Bool s.on) [
        | inl on ↦ elim (cases_lt to s.depth) [
          | inl less ↦ r.keeps on less
          | inr full ↦ let same : s.depth ≡ to = omega (arith, r.high, full) in subst (λ n. Keeps (recorded e) i (cover_at s n (all_edges h) new)) same (own_keeps new a)
        ]
        | inr off ↦
            let birth = asked_birth e h new a in
            subst (λ (o : Option (List ℕ)). Keeps (recorded e) i o) (off_none h new birth s s.depth off ∙ sym (off_none h new birth s to off)) (own_keeps new a)
      ]))

  -- and at each, where the signature has no cover with it
  at_aside : (new : Edge) (d : ℕ) → 1 ≤ d → 1 ≤ s.depth → asked e h ≡ Some new → IsAside s new → IsLegalAfter (at_depth i d c) h e
  at_aside new d low some a aside =
      from_keeps d (λ x b. subst (λ (y : Edge). Keeps (recorded e) i (cover_at s d (all_edges h) y)) (same_Some new x (sym a ∙ b)) (
      let birth = asked_birth e h new a in
      subst (λ (o : Option (List ℕ)). Keeps (recorded e) i o) (aside_none h new birth s s.depth some aside ∙ sym (aside_none h new birth s d low aside)) (own_keeps new a)))

-- the same of a whole history
pub between_law : BetweenLaw
between_law c [] i k m s at low high l w = tt
between_law c (e ∷ h) i k m s at low high l w = (between c h e i s at l.0 k m low high w.0, between_law c h i k m s at low high l.1 w.1)

pub one_law : OneLaw
one_law c h i d k v w = elim (cases_order d k) [
  | inl same ↦ same
  | inr other ↦ elim other [
    | inl less ↦ absurd (w.least d v.low less v.legal)
    | inr less ↦ absurd (v.least k w.low less w.legal)
  ]
]

-- the least depth after an entry more
pub least_next : (c : Constants) (h : List Entry) (e : Entry) (i d to : ℕ) (w : IsLeastDepth c h i d) → Legal c (e ∷ h) → IsNext w.sig i h e d to → IsLeastDepth c (e ∷ h) i to
least_next c h e i d to w l next = go (asked e h) refl next
  where
    -- it stays, where the entry is legal at it too
    stays : to ≡ d → IsLegalAfter (at_depth i d c) h e → IsLeastDepth c (e ∷ h) i to
    stays same k = subst (λ n. IsLeastDepth c (e ∷ h) i n) (sym same) record {
      sig = w.sig;
      sig_is = w.sig_is;
      low = w.low;
      high = w.high;
      legal = (k, w.legal);
      least = λ k low less x. w.least k low less x.1;
    }

    go : (o : Option Edge) → asked e h ≡ o → MatchOption o (to ≡ d) (λ new. IsRaised w.sig i (all_edges h) e new d to ⊎ ((to ≡ d) × IsAside w.sig new)) → IsLeastDepth c (e ∷ h) i to
    go None a same = stays same (at_each c h e i w.sig w.sig_is l.0 d a)
    go (Some new) a next = elim next [
      | inl r ↦ record {
        sig = w.sig;
        sig_is = w.sig_is;
        low = omega (arith, w.low, r.up);
        high = r.high;
        legal = (at_raised c h e i w.sig w.sig_is l.0 new d to a r, between_law c h i d to w.sig w.sig_is r.up r.high l.1 w.legal);
        least = λ k low less x. elim (cases_lt k d) [
          | inl below ↦ w.least k low below x.1
          | inr above ↦ r.passed k above less (to_keeps c h e i w.sig w.sig_is l.0 k new a x.0)
        ];
      }
      | inr r ↦ stays r.0 (at_aside c h e i w.sig w.sig_is l.0 new d w.low (omega (arith, w.low, w.high)) a r.1)
    ]

-- and before the first it is 1
pub least_first : (c : Constants) (i : ℕ) (s : Sig) → slice_get c.loaded i ≡ Some s → 1 ≤ s.depth → IsLeastDepth c [] i 1
least_first c i s at some = record {
  sig = s;
  sig_is = at;
  low = omega arith;
  high = some;
  legal = tt;
  least = λ k low less x. omega (arith, low, less);
}
