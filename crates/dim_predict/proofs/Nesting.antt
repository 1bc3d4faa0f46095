-- Which nestings a history has, and in which order.
use Rattle.std.proofs.Common.{◌≡◌, ℕ, suc, ◌<◌, ◌&&◌, eqb, refl, ap, sym, ◌∙◌, subst, inl, inr, arith, List, [], ◌∷◌, ◌++◌, length, reverse, take}
use Rattle.std.specs.Prelude.{not, map, Option, Some, None, option_map}
use Rattle.std.proofs.lemmas.Bool.{cases_Bool, cases_lt, eqb-false, ne_eqb, and_parts, and_from, not-true, not_from_false}
use Rattle.std.proofs.lemmas.Option.{same_Some}
use Rattle.std.proofs.lemmas.List.{length-reverse, reverse-reverse, take_all, length-take}
use Rattle.dim_base.specs.declared.Tid.{Tid}
use Rattle.dim_base.specs.declared.Lid.{Lid}
use Rattle.dim_rag.specs.declared.entry.Edge.{Edge}
use Rattle.dim_rag.specs.declared.entry.Entry.{Entry}
use Rattle.dim_rag.specs.declared.entry.Entry.TheVariants.{Go, Yield, Got, Free, Took, Miss, End, Break, Learn}
use Rattle.dim_rag.specs.Born.{In, AreByBirth}
use Rattle.dim_rag.specs.History.{past, grant, allow, hold, is_about, is_for, latest_wish, edge_of_wish, Wish}
use Rattle.dim_rag.specs.Places.{before}
use Rattle.dim_rag.proofs.Exports.{allow-about, allow-other, same, same_pair, in_left, in_right, in_parts, edges_law, edge_on, before_newest, before_older}
use Rattle.dim_predict.specs.Nestings.{Nesting, does_hold, holds, others, nesting, nested_by, nestings_of, nestings, lock_numbers}
use Rattle.dim_predict.specs.Places.{IsNesting, IsEarlier, NestingsLaw}
use Rattle.dim_predict.proofs.LockSets.{lock_in}
use Rattle.dim_predict.proofs.Members.{in_filter, from_filter, in_map, from_map, Pairwise, all_pairs}
use Rattle.dim_predict.proofs.Holding.{in_holds, from_holds, holds_by_birth, filter_by_birth}

-- a grant is an allow edge, born at its place
record IsGrant (e : Entry) (h : List Entry) (x : Edge) : Type 0 where
  birth : x.birth ≡ length h
  allowed : allow x.t.0 x.l.0 (e ∷ h) ≡ Some x

go_grants : (u : Tid) (m : Lid) (s : _) (h : List Entry) (x : Edge) → grant (Go u m s ∷ h) ≡ Some x → IsGrant (Go u m s) h x
go_grants u m s h x q =
    let y : Edge = record { t = u; l = m; stack = s; birth = length h } in
    let k : y ≡ x = same_Some y x q in
    subst (IsGrant (Go u m s) h) k record { birth = refl; allowed = allow-about u.0 m.0 (Go u m s) h (same_pair u.0 m.0) }

break_grants : (set : ℕ) (u : Tid) (h : List Entry) (x : Edge) (o : Option Wish) → latest_wish u.0 h ≡ o → option_map (edge_of_wish u (length h)) o ≡ Some x → IsGrant (Break set u) h x
break_grants set u h x None w q = absurd (cc)
break_grants set u h x (Some v) w q =
    let y : Edge = edge_of_wish u (length h) v in
    let k : y ≡ x = same_Some y x q in
    subst (IsGrant (Break set u) h) k record {
      birth = refl;
      allowed =
          allow-about u.0 v.lock.0 (Break set u) h (and_from (eqb u.0 u.0) (is_for v.lock.0 (latest_wish u.0 h)) (same u.0) (ap (is_for v.lock.0) w ∙ same v.lock.0))
          ∙ ap (option_map (edge_of_wish u (length h))) w;
    }

grants : (e : Entry) (h : List Entry) (x : Edge) → grant (e ∷ h) ≡ Some x → IsGrant e h x
grants (Go u m s) h x q = go_grants u m s h x q
grants (Break set u) h x q = break_grants set u h x (latest_wish u.0 h) refl q
grants (Yield u m s sig b) h x q = absurd (cc)
grants (Got u m) h x q = absurd (cc)
grants (Free u m) h x q = absurd (cc)
grants (Took u m s) h x q = absurd (cc)
grants (Miss u m s why) h x q = absurd (cc)
grants (End u why) h x q = absurd (cc)
grants (Learn b) h x q = absurd (cc)

-- an edge is older than the length
old : (h : List Entry) (x : Edge) (t l : ℕ) → allow t l h ≡ Some x → x.birth < length h
old h x t l q = edges_law.old h x (edges_law.each h x (edge_on t l h x (inl q)).2)

-- an allow edge born at the last place is the grant there
granted_here : (e : Entry) (h : List Entry) (x : Edge) (t l : ℕ) → allow t l (e ∷ h) ≡ Some x → x.birth ≡ length h → grant (e ∷ h) ≡ Some x
granted_here e h x t l q b = elim (cases_Bool (is_about t l e h)) [
  | inl a ↦ sym (allow-about t l e h a) ∙ q
  | inr a ↦ absurd (let k : x.birth < length h = old h x t l (sym (allow-other t l e h a) ∙ q) in omega (arith, k, b))
]

-- the other hold edges of a thread
pub in_others : (t m : ℕ) (h : List Entry) (l : ℕ) (e : Edge) → hold t l h ≡ Some e → (e.l.0 ≡ m → ⊥) → In e (others t m h)
in_others t m h l e q n = in_filter (λ (x : Edge). not (eqb x.l.0 m)) e (holds t h) (in_holds t h l e q) (not_from_false (eqb e.l.0 m) (ne_eqb e.l.0 m n))

pub from_others : (t m : ℕ) (h : List Entry) (e : Edge) → In e (others t m h) → (hold t e.l.0 h ≡ Some e) × (e.l.0 ≡ m → ⊥)
from_others t m h e i =
    let r = from_filter (λ (x : Edge). not (eqb x.l.0 m)) e (holds t h) i in
    ((from_holds t h e r.0).1, λ s. eqb-false e.l.0 m (not-true (eqb e.l.0 m) r.1) s)

-- the history before the place behind the newest entry
before_all : (e : Entry) (h : List Entry) → before (suc (length h)) (reverse (e ∷ h)) ≡ e ∷ h
before_all e h = ap (λ (es : List Entry). reverse es) (take_all (suc (length h)) (reverse (e ∷ h)) (let n : length (reverse (e ∷ h)) ≡ suc (length h) = length-reverse (e ∷ h) in omega (arith, n))) ∙ reverse-reverse (e ∷ h)

module _ (e : Entry) (h : List Entry) where
  -- what is nested at the newest place
  pub nested_in : (n : Nesting) (wanted held : Edge) → grant (e ∷ h) ≡ Some wanted → hold wanted.t.0 held.l.0 h ≡ Some held → (held.l.0 ≡ wanted.l.0 → ⊥) → n ≡ nesting wanted h held → In n (nested_by h (grant (e ∷ h)))
  nested_in n wanted held g k o s =
      subst (λ (x : Option Edge). In n (nested_by h x)) (sym g) (subst (λ (x : Nesting). In x (nested_by h (Some wanted))) (sym s)
      (in_map (nesting wanted h) held (others wanted.t.0 wanted.l.0 h) (in_others wanted.t.0 wanted.l.0 h held.l.0 held k o)))

  pub from_nested : (n : Nesting) (o : Option Edge) → grant (e ∷ h) ≡ o → In n (nested_by h o) → (wanted : Edge) × (held : Edge) × (grant (e ∷ h) ≡ Some wanted) × (hold wanted.t.0 held.l.0 h ≡ Some held) × (held.l.0 ≡ wanted.l.0 → ⊥) × (n ≡ nesting wanted h held)
  from_nested n None g i = absurd i
  from_nested n (Some wanted) g i =
      let r = from_map (nesting wanted h) n (others wanted.t.0 wanted.l.0 h) i in
      let f = from_others wanted.t.0 wanted.l.0 h r.0 r.1 in
      (wanted, r.0, g, f.0, f.1, sym r.2)

  nested_is : (n : Nesting) → In n (nested_by h (grant (e ∷ h))) → IsNesting (reverse (e ∷ h)) n
  nested_is n i =
      let f = from_nested n (grant (e ∷ h)) refl i in
      let g = grants e h f.0 f.2 in
      let p : n.place ≡ length h = ap (λ (x : Nesting). x.place) f.5 ∙ g.birth in
      record {
        wanted = f.0;
        held = f.1;
        allowed = ap (λ k. allow f.0.t.0 f.0.l.0 (before (suc k) (reverse (e ∷ h)))) p ∙ ap (allow f.0.t.0 f.0.l.0) (before_all e h) ∙ g.allowed;
        here = sym (ap (λ (x : Nesting). x.place) f.5);
        holds = ap (λ k. hold f.0.t.0 f.1.l.0 (before k (reverse (e ∷ h)))) p ∙ ap (hold f.0.t.0 f.1.l.0) (before_newest e h) ∙ f.3;
        other = f.4;
        says = f.5 ∙ ap (λ (x : List Entry). nesting f.0 x f.1) (sym (ap (λ k. before k (reverse (e ∷ h))) p ∙ before_newest e h));
      }

  older_is : (n : Nesting) → n.place < length h → IsNesting (reverse h) n → IsNesting (reverse (e ∷ h)) n
  older_is n l k =
      let b : before n.place (reverse (e ∷ h)) ≡ before n.place (reverse h) = before_older e h n.place (omega (arith, l)) in
      let a : before (suc n.place) (reverse (e ∷ h)) ≡ before (suc n.place) (reverse h) = before_older e h (suc n.place) (omega (arith, l)) in
      record {
        wanted = k.wanted;
        held = k.held;
        allowed = ap (allow k.wanted.t.0 k.wanted.l.0) a ∙ k.allowed;
        here = k.here;
        holds = ap (hold k.wanted.t.0 k.held.l.0) b ∙ k.holds;
        other = k.other;
        says = k.says ∙ ap (λ (x : List Entry). nesting k.wanted x k.held) (sym b);
      }

  newer_is : (n : Nesting) → n.place < length h → IsNesting (reverse (e ∷ h)) n → IsNesting (reverse h) n
  newer_is n l k =
      let b : before n.place (reverse (e ∷ h)) ≡ before n.place (reverse h) = before_older e h n.place (omega (arith, l)) in
      let a : before (suc n.place) (reverse (e ∷ h)) ≡ before (suc n.place) (reverse h) = before_older e h (suc n.place) (omega (arith, l)) in
      record {
        wanted = k.wanted;
        held = k.held;
        allowed = ap (allow k.wanted.t.0 k.wanted.l.0) (sym a) ∙ k.allowed;
        here = k.here;
        holds = ap (hold k.wanted.t.0 k.held.l.0) (sym b) ∙ k.holds;
        other = k.other;
        says = k.says ∙ ap (λ (x : List Entry). nesting k.wanted x k.held) b;
      }

  newest_is : (n : Nesting) → n.place ≡ length h → IsNesting (reverse (e ∷ h)) n → In n (nested_by h (grant (e ∷ h)))
  newest_is n p k =
      let b : before n.place (reverse (e ∷ h)) ≡ h = ap (λ x. before x (reverse (e ∷ h))) p ∙ before_newest e h in
      let a : before (suc n.place) (reverse (e ∷ h)) ≡ e ∷ h = ap (λ x. before (suc x) (reverse (e ∷ h))) p ∙ before_all e h in
      nested_in n k.wanted k.held
      (granted_here e h k.wanted k.wanted.t.0 k.wanted.l.0 (ap (allow k.wanted.t.0 k.wanted.l.0) (sym a) ∙ k.allowed) (k.here ∙ p))
      (ap (hold k.wanted.t.0 k.held.l.0) (sym b) ∙ k.holds) k.other (k.says ∙ ap (λ (x : List Entry). nesting k.wanted x k.held) b)

-- a nesting has a place in the list
place_low : (entries : List Entry) (n : Nesting) → IsNesting entries n → n.place < length entries
place_low entries n k =
    let o : k.wanted.birth < length (before (suc n.place) entries) = old (before (suc n.place) entries) k.wanted k.wanted.t.0 k.wanted.l.0 k.allowed in
    let r : length (before (suc n.place) entries) ≡ length (take (suc n.place) entries) = length-reverse (take (suc n.place) entries) in
    let t = length-take (suc n.place) entries in
    let h = k.here in
    omega (arith, o, r, t, h)

pub are_nestings : (h : List Entry) (n : Nesting) → In n (nestings_of h) → IsNesting (reverse h) n
are_nestings [] n i = absurd i
are_nestings (e ∷ h) n i = elim (in_parts n (nestings_of h) (nested_by h (grant (e ∷ h))) i) [
  | inl j ↦ let k = are_nestings h n j in older_is e h n (let p : n.place < length (reverse h) = place_low (reverse h) n k in let r : length (reverse h) ≡ length h = length-reverse h in omega (arith, p, r)) k
  | inr j ↦ nested_is e h n j
]

pub each_nesting : (h : List Entry) (n : Nesting) → IsNesting (reverse h) n → In n (nestings_of h)
each_nesting [] n k = absurd (let p : n.place < 0 = place_low [] n k in omega (arith, p))
each_nesting (e ∷ h) n k = elim (cases_lt n.place (length h)) [
  | inl l ↦ in_left n (nestings_of h) (nested_by h (grant (e ∷ h))) (each_nesting h n (newer_is e h n l k))
  | inr g ↦ in_right n (nestings_of h) (nested_by h (grant (e ∷ h))) (newest_is e h n (let p : n.place < length (reverse (e ∷ h)) = place_low (reverse (e ∷ h)) n k in let r : length (reverse (e ∷ h)) ≡ suc (length h) = length-reverse (e ∷ h) in omega (arith, g, p, r)) k)
]

-- each one stands before those behind it
abbrev pub Ascend : List Nesting → Type 0
Ascend xs = Pairwise IsEarlier xs

ascend-append : (xs ys : List Nesting) → Ascend xs → Ascend ys → ((x y : Nesting) → In x xs → In y ys → IsEarlier x y) → Ascend (xs ++ ys)
ascend-append [] ys a b f = b
ascend-append (x ∷ xs) ys a b f = ((λ y i. elim (in_parts y xs ys i) [ inl j ↦ a.0 y j | inr j ↦ f x y (inl refl) j ]), ascend-append xs ys a.1 b (λ z y i j. f z y (inr i) j))

ascend_map : (wanted : Edge) (h : List Entry) (es : List Edge) → AreByBirth es → Ascend (map (nesting wanted h) es)
ascend_map wanted h [] a = tt
ascend_map wanted h (e ∷ es) a = (
  (λ y i. let r = from_map (nesting wanted h) y es i in subst (IsEarlier (nesting wanted h e)) r.2 (inr (refl, a.0 r.0 r.1))),
  ascend_map wanted h es a.1,
)

ascend_nested : (h : List Entry) (o : Option Edge) → Ascend (nested_by h o)
ascend_nested h None = tt
ascend_nested h (Some wanted) = ascend_map wanted h (others wanted.t.0 wanted.l.0 h) (filter_by_birth (λ (x : Edge). not (eqb x.l.0 wanted.l.0)) (holds wanted.t.0 h) (holds_by_birth wanted.t.0 h))

pub ascend : (h : List Entry) → Ascend (nestings_of h)
ascend [] = tt
ascend (e ∷ h) = ascend-append (nestings_of h) (nested_by h (grant (e ∷ h))) (ascend h) (ascend_nested h (grant (e ∷ h))) (λ x y i j.
    let p : x.place < length (reverse h) = place_low (reverse h) x (are_nestings h x i) in
    let r : length (reverse h) ≡ length h = length-reverse h in
    let f = from_nested e h y (grant (e ∷ h)) refl j in
    let q : y.place ≡ length h = ap (λ (z : Nesting). z.place) f.5 ∙ (grants e h f.0 f.2).birth in
    inl (omega (arith, p, r, q)))

pub nestings_law : NestingsLaw
nestings_law = record {
  exact = λ entries n. (
    (λ i. subst (λ (es : List Entry). IsNesting es n) (reverse-reverse entries) (are_nestings (past entries) n i)),
    (λ k. each_nesting (past entries) n (subst (λ (es : List Entry). IsNesting es n) (sym (reverse-reverse entries)) k)),
  );
  ordered = λ entries. all_pairs IsEarlier (nestings entries) (ascend (past entries));
  guarded = λ t l h x b. (
    (λ i. let r = from_filter (λ y. not (eqb y l) && does_hold t h y) x lock_numbers i in
        let p = and_parts (not (eqb x l)) (does_hold t h x) r.1 in
        ((λ s. eqb-false x l (not-true (eqb x l) p.0) s), p.1)),
    (λ k. in_filter (λ y. not (eqb y l) && does_hold t h y) x lock_numbers (lock_in x b) (and_from (not (eqb x l)) (does_hold t h x) (not_from_false (eqb x l) (ne_eqb x l k.0)) k.1)),
  );
}
