-- A cycle of two threads makes a candidate.
use Rattle.std.proofs.Common.{◌≡◌, ℕ, ◌<◌, true, false, ◌&&◌, eqb, refl, ap, ap₂, sym, ◌∙◌, subst, inl, inr, arith, List, [], ◌∷◌, length}
use Rattle.std.specs.Prelude.{not, Option, Some, None, is_some, option_map}
use Rattle.std.proofs.lemmas.Bool.{cases_Bool, cases_eq, eqb-true, eq-eqb, ne_eqb, and_parts, and_from, and_right, false≢true}
use Rattle.std.proofs.lemmas.Option.{same_Some}
use Rattle.dim_base.specs.declared.Tid.{Tid}
use Rattle.dim_base.specs.declared.Lid.{Lid}
use Rattle.dim_rag.specs.declared.entry.Edge.{Edge}
use Rattle.dim_rag.specs.declared.entry.Entry.{Entry}
use Rattle.dim_rag.specs.declared.entry.Entry.TheVariants.{Go, Yield, Got, Free, Took, Miss, End, Break, Learn}
use Rattle.dim_rag.specs.declared.entry.Mode.{Mode}
use Rattle.dim_rag.specs.declared.entry.Mode.TheVariants.{Running, Allowed, Yielding, Ended}
use Rattle.dim_rag.specs.Born.{In}
use Rattle.dim_rag.specs.Fits.{Fits, IsYielding, AreInRange}
use Rattle.dim_rag.specs.History.{past, grant, hold, mode, mode_by, mode_of_wish, is_word_of, is_about, is_for, latest_wish, edge_of_wish, Wish}
use Rattle.dim_rag.specs.Holder.{holder}
use Rattle.dim_rag.specs.Waits.{waits_by}
use Rattle.dim_rag.proofs.Exports.{not_about, hold-about, hold-other, mode-other, mode-word, in_left, in_right, hold_names, hold_below, holder_hold, holder_of, wish_of}
use Rattle.dim_gate.proofs.Exports.{fits, in_range}
use Rattle.dim_predict.specs.Nestings.{Content, Nesting, does_hold, guards, says, nested_by, nestings_of, nesting, lock_numbers, contents}
use Rattle.dim_predict.specs.Cycles.{TwoThreadsLaw}
use Rattle.dim_predict.proofs.Apart.{AreApart, from_opposed}
use Rattle.dim_predict.proofs.Listing.{pair_found}
use Rattle.dim_predict.proofs.Members.{filter_same, from_filter, in_map}
use Rattle.dim_predict.proofs.Nesting.{nested_in}

-- guards stay while holds do
guards_same : (t l : ℕ) (h k : List Entry) → ((x : ℕ) → hold t x h ≡ hold t x k) → guards t l h ≡ guards t l k
guards_same t l h k f = filter_same (λ x. not (eqb x l) && does_hold t h x) (λ x. not (eqb x l) && does_hold t k x) lock_numbers (λ x i. ap (λ (o : Option Edge). not (eqb x l) && is_some o) (f x))

says_same : (t : Tid) (m : Lid) (h k : List Entry) (e : Edge) → ((x : ℕ) → hold t.0 x h ≡ hold t.0 x k) → says t m h e ≡ says t m k e
says_same t m h k e f = ap (λ (g : List ℕ). record { thread = t; held = e.l; wanted = m; stack = e.stack; guards = g }) (guards_same t.0 e.l.0 h k f)

allowed_lock : (a b : Lid) (p q : ℕ) → Allowed a p ≡ Allowed b q → a ≡ b
allowed_lock a b p q e = cc

tid : (a b : Tid) → a.0 ≡ b.0 → a ≡ b
tid a b e i = record { 0 = e i }

-- the grant that allows a thread: what it holds there it held before
record Allows (t : Tid) (l : Lid) (x : Entry) (h : List Entry) : Type 0 where
  wanted : Edge
  granted : grant (x ∷ h) ≡ Some wanted
  thread : wanted.t ≡ t
  lock : wanted.l ≡ l
  elsewhere : (k : ℕ) → (k ≡ l.0 → ⊥) → is_about t.0 k x h ≡ false
  here : hold t.0 l.0 (x ∷ h) ≡ None
  before : hold t.0 l.0 h ≡ None

wish_allows : (t u : Tid) (l : Lid) (birth set : ℕ) (h : List Entry) (o : Option Wish) → u ≡ t → latest_wish u.0 h ≡ o → ((v : Wish) → o ≡ Some v → hold u.0 v.lock.0 h ≡ None) → mode_of_wish (length h) o ≡ Allowed l birth → Allows t l (Break set u) h
wish_allows t u l birth set h None s w f q = absurd (cc)
wish_allows t u l birth set h (Some v) s w f q =
    let k : v.lock ≡ l = allowed_lock v.lock l (length h) birth q in
    let about : (x : ℕ) → is_about t.0 x (Break set u) h ≡ (eqb u.0 t.0 && eqb v.lock.0 x) = λ x. ap (λ y. eqb u.0 t.0 && is_for x y) (ap (λ (y : Tid). latest_wish y.0 h) (sym s) ∙ w) in
    record {
      wanted = edge_of_wish u (length h) v;
      granted = ap (option_map (edge_of_wish u (length h))) w;
      thread = s;
      lock = k;
      elsewhere = λ x n. about x ∙ and_right (eqb u.0 t.0) (eqb v.lock.0 x) (ne_eqb v.lock.0 x (λ e. n (sym e ∙ ap (λ (y : Lid). y.0) k)));
      here = hold-about t.0 l.0 (Break set u) h (about l.0 ∙ and_from (eqb u.0 t.0) (eqb v.lock.0 l.0) (eq-eqb u.0 t.0 (ap (λ (y : Tid). y.0) s)) (eq-eqb v.lock.0 l.0 (ap (λ (y : Lid). y.0) k)));
      before = ap (λ (y : Tid). hold y.0 l.0 h) (sym s) ∙ ap (λ (y : Lid). hold u.0 y.0 h) (sym k) ∙ f v refl;
    }

-- what a thread wants that yields it doesn't hold
wanted_unheld : (n m : ℕ) (u : Tid) (h : List Entry) → Fits h → AreInRange n m h → u.0 < n → IsYielding u.0 h → (v : Wish) → latest_wish u.0 h ≡ Some v → hold u.0 v.lock.0 h ≡ None
wanted_unheld n m u h f i low y v q =
    let w = wish_of n m h f i u.0 low y.0 y.1 y.2 in
    let k : Wish = record { lock = y.0; stack = w.stack; births = w.births; place = y.1 } in
    let e : k ≡ v = same_Some k v (sym w.wish_is ∙ q) in
    ap (λ (x : Wish). hold u.0 x.lock.0 h) (sym e) ∙ w.unheld

allows : (n m : ℕ) (t : Tid) (l : Lid) (birth : ℕ) (x : Entry) (h : List Entry) → Fits (x ∷ h) → AreInRange n m (x ∷ h) → is_word_of t.0 x ≡ true → mode_by (x ∷ h) ≡ Allowed l birth → Allows t l x h
allows n o t l birth (Go u m s) h f r w q =
    let k : m ≡ l = allowed_lock m l (length h) birth q in
    record {
      wanted = record { t = u; l = m; stack = s; birth = length h };
      granted = refl;
      thread = tid u t (eqb-true u.0 t.0 w);
      lock = k;
      elsewhere = λ x n. and_right (eqb u.0 t.0) (eqb m.0 x) (ne_eqb m.0 x (λ e. n (sym e ∙ ap (λ (y : Lid). y.0) k)));
      here = hold-about t.0 l.0 (Go u m s) h (and_from (eqb u.0 t.0) (eqb m.0 l.0) w (eq-eqb m.0 l.0 (ap (λ (y : Lid). y.0) k)));
      before = ap₂ (λ (y : Tid) (z : Lid). hold y.0 z.0 h) (sym (tid u t (eqb-true u.0 t.0 w))) (sym k) ∙ f.0.free;
    }
allows n o t l birth (Break set u) h f r w q = wish_allows t u l birth set h (latest_wish u.0 h) (tid u t (eqb-true u.0 t.0 w)) refl (wanted_unheld n o u h f.1 r.1 r.0 f.0) q
allows n o t l birth (Yield u m s sig b) h f r w q = absurd (cc)
allows n o t l birth (Got u m) h f r w q = absurd (cc)
allows n o t l birth (Free u m) h f r w q = absurd (cc)
allows n o t l birth (Took u m s) h f r w q = absurd (cc)
allows n o t l birth (Miss u m s why) h f r w q = absurd (cc)
allows n o t l birth (End u why) h f r w q = absurd (cc)
allows n o t l birth (Learn b) h f r w q = absurd (false≢true w)

-- a thread that is allowed on a lock and holds another has made a nesting, which says what is so now
pub has_nested : (n m : ℕ) (h : List Entry) → Fits h → AreInRange n m h → (t : Tid) (l : Lid) (birth : ℕ) (e : Edge) → mode t.0 h ≡ Allowed l birth → hold t.0 e.l.0 h ≡ Some e
    → (x : Nesting) × In x (nestings_of h) × (x.content ≡ says t l h e)
has_nested n m [] f r t l birth e a k = absurd (cc)
has_nested n m (x ∷ h) f r t l birth e q k = elim (cases_Bool (is_word_of t.0 x)) [
  | inr w ↦
      let stays : (y : ℕ) → hold t.0 y (x ∷ h) ≡ hold t.0 y h = λ y. hold-other t.0 y x h (not_about t.0 y x h w) in
      let p = has_nested n m h f.1 r.1 t l birth e (sym (mode-other t.0 x h w) ∙ q) (sym (stays e.l.0) ∙ k) in
      (p.0, in_left p.0 (nestings_of h) (nested_by h (grant (x ∷ h))) p.1, p.2 ∙ sym (says_same t l (x ∷ h) h e stays))
  | inl w ↦
      let a = allows n m t l birth x h f r w (sym (mode-word t.0 x h w) ∙ q) in
      let stays : (y : ℕ) → hold t.0 y (x ∷ h) ≡ hold t.0 y h = λ y. elim (cases_eq y l.0) [
        | inl s ↦ ap (λ z. hold t.0 z (x ∷ h)) s ∙ a.here ∙ sym (ap (λ z. hold t.0 z h) s ∙ a.before)
        | inr s ↦ hold-other t.0 y x h (a.elsewhere y s)
      ] in
      let other : e.l.0 ≡ l.0 → ⊥ = λ s. absurd (let j : None ≡ Some e = sym a.here ∙ ap (λ y. hold t.0 y (x ∷ h)) (sym s) ∙ k in cc) in
      let p : Nesting = nesting a.wanted h e in (
        p,
        in_right p (nestings_of h) (nested_by h (grant (x ∷ h))) (nested_in x h p a.wanted e a.granted (ap (λ (y : Tid). hold y.0 e.l.0 h) a.thread ∙ sym (stays e.l.0) ∙ k) (λ s. other (s ∙ ap (λ (y : Lid). y.0) a.lock)) refl),
        ap₂ (λ (u : Tid) (y : Lid). says u y h e) a.thread a.lock ∙ sym (says_same t l (x ∷ h) h e stays),
      )
]

-- what a thread waits for
record IsWait (n : ℕ) (h : List Entry) (t : ℕ) (x : Edge) : Type 0 where
  lock : Lid
  birth : ℕ
  mode_is : mode t h ≡ Allowed lock birth
  held : holder n lock.0 h ≡ Some x

wait_by : (n t : ℕ) (h : List Entry) (x : Edge) (m : Mode) → mode t h ≡ m → waits_by n h m ≡ Some x → IsWait n h t x
wait_by n t h x (Allowed l b) e q = record { lock = l; birth = b; mode_is = e; held = q }
wait_by n t h x Running e q = absurd (cc)
wait_by n t h x (Yielding l p) e q = absurd (cc)
wait_by n t h x (Ended p) e q = absurd (cc)

-- the holder of a lock holds it
holds_it : (n l : ℕ) (h : List Entry) (x : Edge) → holder n l h ≡ Some x → (hold x.t.0 l h ≡ Some x) × (x.l.0 ≡ l)
holds_it n l h x q =
    let w = holder_hold n l h x q in
    let a = hold_names w.0 l x h w.1 in
    (ap (λ u. hold u l h) a.0 ∙ w.1, a.1)

lid : (a b : Lid) → a.0 ≡ b.0 → a ≡ b
lid a b e i = record { 0 = e i }

-- nobody else holds what a thread holds
one_holds : (n m : ℕ) (h : List Entry) → Fits h → AreInRange n m h → (t u l : ℕ) (x y : Edge) → hold t l h ≡ Some x → hold u l h ≡ Some y → t ≡ u
one_holds n m h f r t u l x y p q =
    let a = hold_below n m t l h x r p in
    let b = hold_below n m u l h y r q in
    let c = holder_of n m h f r t l a.0 a.1 x p in
    let d = holder_of n m h f r u l b.0 b.1 y q in
    sym c.1 ∙ ap (λ (z : Edge). z.t.0) (same_Some x y (sym c.0 ∙ d.0)) ∙ d.1

held_guard : (t l : ℕ) (h : List Entry) (x : ℕ) → In x (guards t l h) → (e : Edge) × (hold t x h ≡ Some e)
held_guard t l h x i =
    let r = from_filter (λ y. not (eqb y l) && does_hold t h y) x lock_numbers i in
    go (hold t x h) refl (and_parts (not (eqb x l)) (does_hold t h x) r.1).1
  where
    go : (o : Option Edge) → hold t x h ≡ o → is_some o ≡ true → (e : Edge) × (hold t x h ≡ Some e)
    go None q s = absurd (cc)
    go (Some e) q s = (e, q)

guards_apart : (n m : ℕ) (h : List Entry) → Fits h → AreInRange n m h → (t u l k : ℕ) → (t ≡ u → ⊥) → AreApart (guards t l h) (guards u k h)
guards_apart n m h f r t u l k other x i j =
    let a = held_guard t l h x i in
    let b = held_guard u k h x j in
    other (one_holds n m h f r t u x a.0 b.0 a.1 b.1)

pub two_threads_law : TwoThreadsLaw
two_threads_law c entries legal few depth a b cycle =
    let h = past entries in
    let n = c.threads in
    let f : Fits h = fits c h legal in
    let r : AreInRange n c.locks h = in_range c h legal in
    let p = wait_by n a.t.0 h b (mode a.t.0 h) refl cycle.closed.0 in
    let q = wait_by n b.t.0 h a (mode b.t.0 h) refl cycle.closed.1.0 in
    let u = holds_it n p.lock.0 h b p.held in
    let v = holds_it n q.lock.0 h a q.held in
    let x : hold b.t.0 b.l.0 h ≡ Some b = ap (λ z. hold b.t.0 z h) u.1 ∙ u.0 in
    let y : hold a.t.0 a.l.0 h ≡ Some a = ap (λ z. hold a.t.0 z h) v.1 ∙ v.0 in
    let other : a.t.0 ≡ b.t.0 → ⊥ = λ s. (let l : a.t.0 < b.t.0 = cycle.least.0 in absurd (omega (arith, l, s))) in
    let one = has_nested n c.locks h f r a.t p.lock p.birth a p.mode_is y in
    let two = has_nested n c.locks h f r b.t q.lock q.birth b q.mode_is x in
    let opposed = from_opposed (says a.t p.lock h a) (says b.t q.lock h b) record {
      threads = other;
      held = v.1;
      wanted = sym u.1;
      guards = guards_apart n c.locks h f r a.t.0 b.t.0 a.l.0 b.l.0 other;
    } in
    pair_found c.loaded depth entries (says a.t p.lock h a) (says b.t q.lock h b)
    (subst (λ (z : Content). In z (contents entries)) one.2 (in_map (λ (z : Nesting). z.content) one.0 (nestings_of h) one.1))
    (subst (λ (z : Content). In z (contents entries)) two.2 (in_map (λ (z : Nesting). z.content) two.0 (nestings_of h) two.1))
    opposed
