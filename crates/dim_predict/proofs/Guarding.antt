-- The nestings of one grant, edge by edge.
use Rattle.std.proofs.Common.{◌≡◌, ◌≢◌, ℕ, zero, suc, ◌+◌, ◌<◌, ◌≤◌, true, false, ◌&&◌, eqb, refl, ap, sym, ◌∙◌, subst, inl, inr, arith, List, [], ◌∷◌, ◌++◌, length, get_or, take, drop, map}
use Rattle.std.specs.Prelude.{Bool, cond, not}
use Rattle.std.specs.List.{filter, list_any}
use Rattle.std.proofs.lemmas.Bool.{cases_eq, eq-eqb, ne_eqb}
use Rattle.std.proofs.lemmas.List.{append-nil, map-append, map_push, take-append-drop}
use Rattle.std.proofs.lemmas.List.Elements.{filter_more, filter-append}
use Rattle.dim_base.specs.declared.Tid.{Tid}
use Rattle.dim_base.specs.declared.Lid.{Lid}
use Rattle.dim_rag.specs.declared.entry.Edge.{Edge}
use Rattle.dim_rag.specs.declared.entry.Entry.{Entry}
use Rattle.dim_rag.specs.Born.{In}
use Rattle.dim_rag.specs.Fits.{AreInRange}
use Rattle.dim_rag.proofs.Exports.{hold_below}
use Rattle.dim_predict.specs.declared.key.Key.{Key}
use Rattle.dim_predict.specs.Nestings.{Content, does_hold, guards, holds, lock_numbers, says}
use Rattle.dim_predict.specs.Candidates.{noted, all_noted}
use Rattle.dim_predict.specs.Keys.{content_of}
use Rattle.dim_predict.specs.LockSets.{is_in, locks_in}
use Rattle.dim_predict.proofs.Holding.{from_holds, holds_lock}
use Rattle.dim_predict.proofs.LockSets.{in_lock}
use Rattle.dim_predict.proofs.Members.{filter_same}
use Rattle.dim_predict.proofs.Noting.{all_noted-append, all_noted_more}

pub at_in : {X : Type 0} (xs : List X) (k : ℕ) (d : X) → k < length xs → In (get_or xs k d) xs
at_in [] k d l = absurd (omega (arith, l))
at_in (x ∷ xs) zero d l = inl refl
at_in (x ∷ xs) (suc k) d l = inr (at_in xs k d (omega (arith, l)))

-- each hold edge is on a lock below 256
pub edge_low : (t n m : ℕ) (h : List Entry) (es : List Edge) (i : ℕ) (d : Edge) → AreInRange n m h → m ≤ 256 → es ≡ holds t h → i < length es → (get_or es i d).l.0 < 256
edge_low t n m h es i d r q s l =
    let e = get_or es i d in
    let f = from_holds t h e (subst (In e) s (at_in es i d l)) in
    let low : e.l.0 < m = (hold_below n m t e.l.0 h e r f.1).1 in
    omega (arith, low, q)

-- the locks that are held, without one, are the guards of its edge
pub guards_are : (t l : ℕ) (h : List Entry) (es : List Edge) (all w : List ℕ) → es ≡ holds t h
    → ((x : ℕ) → x < 256 → is_in all x ≡ list_any (λ (e : Edge). eqb e.l.0 x) es)
    → is_in w l ≡ false → ((x : ℕ) → x < 256 → x ≢ l → is_in w x ≡ is_in all x) → locks_in w ≡ guards t l h
guards_are t l h es all w s a out others = filter_same (is_in w) (λ x. not (eqb x l) && does_hold t h x) lock_numbers (λ x i. elim (cases_eq x l) [
  | inl e ↦ ap (is_in w) e ∙ out ∙ sym (ap (λ v. not v && does_hold t h x) (eq-eqb x l e))
  | inr n ↦
      others x (in_lock x i) n ∙ a x (in_lock x i) ∙ ap (list_any (λ (e : Edge). eqb e.l.0 x)) s ∙ holds_lock t h x
      ∙ sym (ap (λ v. not v && does_hold t h x) (ne_eqb x l n))
])

with_guards : Tid → Lid → Edge → List ℕ → Content
with_guards t m e gs = record { thread = t; held = e.l; wanted = m; stack = e.stack; guards = gs }

pub says_is : (t : Tid) (m : Lid) (h : List Entry) (e : Edge) (k : Key) → k.thread ≡ t → k.held ≡ e.l → k.wanted ≡ m → k.stack ≡ e.stack → locks_in k.guards.words ≡ guards t.0 e.l.0 h → content_of k ≡ says t m h e
says_is t m h e k a b c d g = cc

module _ (t : Tid) (m : Lid) (h : List Entry) where
  other : Edge → Bool
  other e = not (eqb e.l.0 m.0)

  said : List Content → List Edge → List Content
  said cs es = all_noted cs (map (says t m h) (filter (λ (e : Edge). not (eqb e.l.0 m.0)) es))

  more : (es : List Edge) (i : ℕ) (e : Edge) (b : Bool) → i < length es → e ≡ get_or es i e → not (eqb e.l.0 m.0) ≡ b
      → filter (λ (x : Edge). not (eqb x.l.0 m.0)) (take (i + 1) es) ≡ filter (λ (x : Edge). not (eqb x.l.0 m.0)) (take i es) ++ cond b (e ∷ []) []
  more es i e b l q p =
      filter_more (λ (x : Edge). not (eqb x.l.0 m.0)) es i e l
      ∙ ap (λ (x : Edge). filter (λ (y : Edge). not (eqb y.l.0 m.0)) (take i es) ++ cond (not (eqb x.l.0 m.0)) (x ∷ []) []) (sym q)
      ∙ ap (λ z. filter (λ (y : Edge). not (eqb y.l.0 m.0)) (take i es) ++ cond z (e ∷ []) []) p

  -- an edge on another lock is noted
  pub noted_edge : (cs : List Content) (es : List Edge) (i : ℕ) (e : Edge) → i < length es → e ≡ get_or es i e → not (eqb e.l.0 m.0) ≡ true
      → all_noted cs (map (says t m h) (filter (λ (x : Edge). not (eqb x.l.0 m.0)) (take (i + 1) es)))
      ≡ noted (all_noted cs (map (says t m h) (filter (λ (x : Edge). not (eqb x.l.0 m.0)) (take i es)))) (says t m h e)
  noted_edge cs es i e l q p =
      let old = filter (λ (x : Edge). not (eqb x.l.0 m.0)) (take i es) in
      ap (λ (xs : List Edge). all_noted cs (map (says t m h) xs)) (more es i e true l q p)
      ∙ ap (all_noted cs) (map_push (says t m h) old e)
      ∙ all_noted-append cs (map (says t m h) old) (says t m h e ∷ [])

  -- one on this lock is not
  pub passed_edge : (cs : List Content) (es : List Edge) (i : ℕ) (e : Edge) → i < length es → e ≡ get_or es i e → not (eqb e.l.0 m.0) ≡ false
      → all_noted cs (map (says t m h) (filter (λ (x : Edge). not (eqb x.l.0 m.0)) (take (i + 1) es)))
      ≡ all_noted cs (map (says t m h) (filter (λ (x : Edge). not (eqb x.l.0 m.0)) (take i es)))
  passed_edge cs es i e l q p =
      ap (λ (xs : List Edge). all_noted cs (map (says t m h) xs)) (more es i e false l q p ∙ append-nil (filter (λ (x : Edge). not (eqb x.l.0 m.0)) (take i es)))

  -- what is noted only grows
  pub noted_grow : (cs : List Content) (es : List Edge) (n : ℕ)
      → length (all_noted cs (map (says t m h) (filter (λ (x : Edge). not (eqb x.l.0 m.0)) (take n es))))
      ≤ length (all_noted cs (map (says t m h) (filter (λ (x : Edge). not (eqb x.l.0 m.0)) es)))
  noted_grow cs es n =
      let first = filter (λ (x : Edge). not (eqb x.l.0 m.0)) (take n es) in
      let last = filter (λ (x : Edge). not (eqb x.l.0 m.0)) (drop n es) in
      let parts : filter (λ (x : Edge). not (eqb x.l.0 m.0)) es ≡ first ++ last =
      ap (filter (λ (x : Edge). not (eqb x.l.0 m.0))) (sym (take-append-drop n es)) ∙ filter-append (λ (x : Edge). not (eqb x.l.0 m.0)) (take n es) (drop n es) in
      let whole = ap (λ (xs : List Edge). all_noted cs (map (says t m h) xs)) parts ∙ ap (all_noted cs) (map-append (says t m h) first last) ∙ all_noted-append cs (map (says t m h) first) (map (says t m h) last) in
      let grows = all_noted_more (all_noted cs (map (says t m h) first)) (map (says t m h) last) in
      let same = ap length whole in
      omega (arith, grows, same)
