-- The edges are taken in from the oldest on.
use Rattle.std.proofs.Common.{◌≡◌, ℕ, ◌+◌, ◌<◌, ◌≤◌, refl, ap, sym, ◌∙◌, subst, inl, inr, ◌⊎◌, arith, List, [], ◌∷◌, ◌++◌, length}
use Rattle.std.specs.Prelude.{Option, Some, None, IfSome}
use Rattle.std.proofs.lemmas.List.{append_assoc, append-nil, length-append}
use Rattle.std.proofs.lemmas.Option.{same_Some}
use Rattle.dim_rag.specs.declared.entry.Edge.{Edge}
use Rattle.dim_rag.specs.declared.entry.Entry.{Entry}
use Rattle.dim_rag.specs.Fits.{AreInRange}
use Rattle.dim_rag.specs.Born.{In, AreByBirth, all_edges}
use Rattle.dim_rag.proofs.Exports.{edges_law as law, in_parts, in_right}
use Rattle.dim_cover.specs.Oldest.{IsNoYounger, IsOldest}
use Rattle.dim_cover.proofs.Seen.{IsSeen, SeesMore, seen_edge, all_seen}

-- the oldest has the birth or a later one
pub is_late : (P : Edge → Type 0) (from : ℕ) (o : Option Edge) → IsOldest P from o → IfSome o (λ e. from ≤ e.birth)
is_late P from None k = tt
is_late P from (Some e) k = (k.own e refl).1

-- the oldest of two, of which one is the oldest of some
module _ (P : Edge → Type 0) (from : ℕ) (o u r : Option Edge) (k : IsOldest P from o) (two : IsOldest (λ x. (o ≡ Some x) ⊎ (u ≡ Some x)) from r) where
  no_younger : (x : Edge) → IsNoYounger o x → IsNoYounger r x
  no_younger x n =
      let w = two.least n.0 (inl n.1) (k.own n.0 n.1).1 in
      let le : w.0.birth ≤ n.0.birth = w.2 in (w.0, w.1, omega (arith, le, n.2))

  -- it is the oldest of those and of the other
  pub one_more : (Q : Edge → Type 0) → ((x : Edge) → P x → Q x) → ((x : Edge) → Q x → P x ⊎ (u ≡ Some x)) → ((x : Edge) → u ≡ Some x → Q x) → IsOldest Q from r
  one_more Q wider back new = record {
    own = λ e q. let w = two.own e q in (elim w.0 [ inl i ↦ wider e (k.own e i).0 | inr i ↦ new e i ], w.1);
    least = λ x q le. elim (back x q) [ inl p ↦ no_younger x (k.least x p le) | inr i ↦ two.least x (inr i) le ];
  }

pub none_seen : (h : List Entry) (from : ℕ) → IsOldest (IsSeen h 0 0) from None
none_seen h from = record {
  own = λ e q. absurd (let n : None ≡ Some e = q in cc);
  least = λ x s le. absurd (elim s [ inl a ↦ (let lt : x.t.0 < 0 = a.1 in omega (arith, lt)) | inr a ↦ (let lt : x.l.0 < 0 = a.1 in omega (arith, lt)) ]);
}

-- one more is seen
pub sees_more : (h : List Entry) (t l v m from : ℕ) (o u r : Option Edge) → SeesMore h t l v m u → IsOldest (IsSeen h t l) from o → IsOldest (λ x. (o ≡ Some x) ⊎ (u ≡ Some x)) from r → IsOldest (IsSeen h v m) from r
sees_more h t l v m from o u r s k two = one_more (IsSeen h t l) from o u r k two (IsSeen h v m) s.wider s.back (λ x i. (s.new x i).0)

-- all are seen
pub oldest_of_all : (n m : ℕ) (h : List Entry) (from : ℕ) (o : Option Edge) → AreInRange n m h → IsOldest (IsSeen h n m) from o → IsOldest (λ e. In e (all_edges h)) from o
oldest_of_all n m h from o r k = record {
  own = λ e q. let w = k.own e q in (law.each h e (seen_edge h n m e w.0), w.1);
  least = λ x i le. k.least x (all_seen n m h r x i) le;
}

-- these are the edges that were born before a birth: with the rest they are all
pub record IsCaught (all es : List Edge) (from : ℕ) : Type 0 where
  pub rest : List Edge
  pub all_is : es ++ rest ≡ all
  pub early : (x : Edge) → In x es → x.birth < from
  pub late : (x : Edge) → In x rest → from ≤ x.birth

pub none_caught : (all : List Edge) → IsCaught all [] 0
none_caught all = record { rest = all; all_is = refl; early = λ x i. absurd i; late = λ x i. omega arith }

-- the last of them stand by birth
last_by_birth : (xs ys : List Edge) → AreByBirth (xs ++ ys) → AreByBirth ys
last_by_birth [] ys a = a
last_by_birth (x ∷ xs) ys a = last_by_birth xs ys a.1

-- the oldest of the rest is the first of it
first_is : (e : Edge) (ys : List Edge) → AreByBirth ys → In e ys → ((x : Edge) → In x ys → e.birth ≤ x.birth) → (zs : List Edge) × (ys ≡ e ∷ zs)
first_is e [] a i least = absurd i
first_is e (y ∷ ys) a (inl q) least = (ys, ap (λ (z : Edge). z ∷ ys) q)
first_is e (y ∷ ys) a (inr i) least = let lt : y.birth < e.birth = a.0 e i in let le : e.birth ≤ y.birth = least y (inl refl) in absurd (omega (arith, lt, le))

module _ (all es : List Edge) (from : ℕ) (sorted : AreByBirth all) (k : IsCaught all es from) where
  into_all : (x : Edge) → In x k.rest → In x all
  into_all x i = subst (λ (xs : List Edge). In x xs) k.all_is (in_right x es k.rest i)

  rest_has : (x : Edge) → In x all → from ≤ x.birth → In x k.rest
  rest_has x i le = elim (in_parts x es k.rest (subst (λ (xs : List Edge). In x xs) (sym k.all_is) i)) [
    | inl j ↦ let lt : x.birth < from = k.early x j in absurd (omega (arith, lt, le))
    | inr j ↦ j
  ]

  module _ (e : Edge) (o : IsOldest (λ x. In x all) from (Some e)) where
    first : (zs : List Edge) × (k.rest ≡ e ∷ zs)
    first = let w = o.own e refl in first_is e k.rest (last_by_birth es k.rest (subst AreByBirth (sym k.all_is) sorted)) (rest_has e w.0 w.1) (λ x i.
        let n = o.least x (into_all x i) (k.late x i) in
        let same : n.0.birth ≡ e.birth = ap (λ (z : Edge). z.birth) (sym (same_Some e n.0 n.1)) in
        omega (arith, n.2, same))

    -- the oldest of the rest is taken in
    pub caught : IsCaught all (es ++ e ∷ []) (e.birth + 1)
    caught =
        let f = first in
        let rest = last_by_birth es k.rest (subst AreByBirth (sym k.all_is) sorted) in
        let ordered : AreByBirth (e ∷ f.0) = subst AreByBirth f.1 rest in
        record {
          rest = f.0;
          all_is = append_assoc es (e ∷ []) f.0 ∙ ap (λ (xs : List Edge). es ++ xs) (sym f.1) ∙ k.all_is;
          early = λ x i. elim (in_parts x es (e ∷ []) i) [
            | inl j ↦ let lt : x.birth < from = k.early x j in omega (arith, lt, (o.own e refl).1)
            | inr j ↦ elim j [ inl q ↦ (let same : e.birth ≡ x.birth = ap (λ (z : Edge). z.birth) q in omega (arith, same)) | inr n ↦ absurd n ]
          ];
          late = λ x i. let lt : e.birth < x.birth = ordered.0 x i in omega (arith, lt);
        }

    -- there is room for it
    pub caught_room : (room : ℕ) → length all ≤ room → length es < room
    caught_room room le =
        let f = first in
        let n = length-append es k.rest in
        let m : length k.rest ≡ length (e ∷ f.0) = ap length f.1 in
        let a : length (es ++ k.rest) ≡ length all = ap length k.all_is in
        omega (arith, le, n, m, a)

  -- where there is no rest, these are all
  pub all_caught : IsOldest (λ x. In x all) from None → es ≡ all
  all_caught o = go k.rest k.all_is (λ x i. o.least x (into_all x i) (k.late x i))
    where
      go : (rest : List Edge) → es ++ rest ≡ all → ((x : Edge) → In x rest → IsNoYounger None x) → es ≡ all
      go [] q n = sym (append-nil es) ∙ q
      go (y ∷ rest) q n = let w = n y (inl refl) in absurd (let z : None ≡ Some w.0 = w.1 in cc)
