-- Lines of threads, as they grow.
use Rattle.std.proofs.Common.{◌≡◌, inl, inr, ℕ, zero, suc, ◌+◌, ◌-◌, ◌<◌, ◌≤◌, ◌==◌, ◌||◌, Bool, true, false, cond, if◌then◌else◌, List, [], ◌∷◌, ◌++◌, Option, Some, None, slice_get, length, get_or, set, refl, sym, ap, subst, ◌∙◌, arith, eqb-true, eq-eqb, ne_eqb, subst₂, zero-add, not}
use Rattle.std.specs.Prelude.{slice_index}
use Rattle.std.specs.Option.{is_some}
use Rattle.std.specs.List.{All, Contains, count_by, flat_map}
use Rattle.std.proofs.lemmas.Bool.{cases_Bool, cases_lt, eqb-false, or_left, or_right}
use Rattle.std.proofs.lemmas.List.{get_or-set_same, get_or-set_other, get_or_append_left, get_or_at, get_or_default, length_push}
use Rattle.std.proofs.lemmas.List.Sums.{sum_by-append}
use Rattle.std.proofs.lemmas.List.Elements.{All-push, All-set, All-get_or, Contains-push_cases}
use Rattle.std.proofs.lemmas.Option.{slice_get_within, get_or_from_slice_get, same_Some}
use Rattle.dim_log.specs.declared.log.Event.{Event}
use Rattle.dim_log.specs.declared.log.Event.TheVariants.{Start, Join}
use Rattle.dim_orders.specs.Own.{doer}
use Rattle.dim_orders.specs.Lines.{AreOnce, Follows, IsLine, times}
use Rattle.dim_orders.specs.Placing.{AreLasts, ArePlaced, EndsWith, IsFree, is_placed}

absurd_bool : (b : Bool) {A : Type 0} → b ≡ true → b ≡ false → A
absurd_bool b t f = absurd (let e : true ≡ false = sym t ∙ f in cc)

abbrev one : Bool → ℕ
one b = if b then 1 else 0

or_none : (a b : Bool) → b ≡ false → (a || b) ≡ a
or_none true b e = refl
or_none false b e = e

-- a place that was read as none
pub unplaced : (xs : List (Option ℕ)) (i : ℕ) (r : Option ℕ) (b : Bool) → i < length xs → r ≡ get_or xs i r → is_some r ≡ not b → b ≡ true → is_placed xs i ≡ false
unplaced xs i r b lt e f g = ap is_some (get_or_default xs i None r lt ∙ sym e) ∙ f ∙ ap not g

-- a thread more that is placed
pub placed_set : (xs : List (Option ℕ)) (i t : ℕ) (c : ℕ) → i < length xs → is_placed (set xs i (Some c)) t ≡ (is_placed xs t || t == i)
placed_set xs i t c lt =
    elim (cases_Bool (t == i)) [
      | inl p ↦ subst (λ (u : ℕ). is_placed (set xs i (Some c)) u ≡ (is_placed xs t || t == i)) (sym (eqb-true t i p))
          (ap is_some (get_or-set_same xs i (Some c) None lt) ∙ sym (or_right (is_placed xs t) (t == i) p))
      | inr p ↦ ap is_some (get_or-set_other xs i t (Some c) None (eqb-false t i p)) ∙ sym (or_none (is_placed xs t) (t == i) p)
    ]

count_append : (t : ℕ) (xs ys : List ℕ) → count_by (λ u. u == t) (xs ++ ys) ≡ count_by (λ u. u == t) xs + count_by (λ u. u == t) ys
count_append t xs ys = sum_by-append (λ (u : ℕ). cond (u == t) 1 0) xs ys

count_one : (t u : ℕ) → count_by (λ v. v == t) (u ∷ []) ≡ one (u == t)
count_one t u = zero-add (one (u == t))

abbrev flat : List (List ℕ) → List ℕ
flat ls = flat_map (λ (l : List ℕ). l) ls

pub times-push : (t : ℕ) (ls : List (List ℕ)) (u : ℕ) → times t (ls ++ (u ∷ []) ∷ []) ≡ times t ls + one (u == t)
times-push t [] u = refl
times-push t (l ∷ ls) u =
    let f = λ (xs : List ℕ). xs in
    let a = count_append t l (flat_map f (ls ++ (u ∷ []) ∷ [])) in
    let b = count_append t l (flat_map f ls) in
    let c = times-push t ls u in
    omega (arith, a, b, c)

pub times-set : (t : ℕ) (ls : List (List ℕ)) (i : ℕ) (u : ℕ) → i < length ls → times t (set ls i (get_or ls i [] ++ u ∷ [])) ≡ times t ls + one (u == t)
times-set t [] i u lt = absurd (omega arith)
times-set t (l ∷ ls) zero u lt =
    let f = λ (xs : List ℕ). xs in
    let a = count_append t (l ++ u ∷ []) (flat_map f ls) in
    let b = count_append t l (flat_map f ls) in
    let c = count_append t l (u ∷ []) in
    let d = count_one t u in
    omega (arith, a, b, c, d)
times-set t (l ∷ ls) (suc i) u lt =
    let f = λ (xs : List ℕ). xs in
    let a = count_append t l (flat_map f (set ls i (get_or ls i [] ++ u ∷ []))) in
    let b = count_append t l (flat_map f ls) in
    let c = times-set t ls i u (omega arith) in
    omega (arith, a, b, c)

-- one more is counted where it was not placed before
once_more : (p q : Bool) (k n m : ℕ) → k ≡ n + one q → n ≡ one p → (q ≡ true → p ≡ false) → m ≡ one (p || q) → k ≡ m
once_more true true k n m e f h g = absurd_bool true refl (h refl)
once_more true false k n m e f h g = omega (arith, e, f, g)
once_more false true k n m e f h g = omega (arith, e, f, g)
once_more false false k n m e f h g = omega (arith, e, f, g)

eqb_comm : (a b : ℕ) → (a == b) ≡ (b == a)
eqb_comm a b =
    elim (cases_Bool (a == b)) [
      | inl p ↦ p ∙ sym (eq-eqb b a (sym (eqb-true a b p)))
      | inr p ↦ p ∙ sym (ne_eqb b a (λ e. eqb-false a b p (sym e)))
    ]

once_after : (t thread n k : ℕ) (old new : List (Option ℕ)) → ((u : ℕ) → is_placed new u ≡ (is_placed old u || u == thread)) → is_placed old thread ≡ false → n ≡ one (is_placed old t) → k ≡ n + one (thread == t) → k ≡ one (is_placed new t)
once_after t thread n k old new placed free e f =
    once_more (is_placed old t) (t == thread) k n (one (is_placed new t)) (f ∙ ap (λ (b : Bool). n + one b) (eqb_comm thread t)) e
    (λ q. subst (λ (u : ℕ). is_placed old u ≡ false) (sym (eqb-true t thread q)) free)
    (ap one (placed t))

single_line : (events : List Event) (t : ℕ) → IsLine events (t ∷ [])
single_line events t i lt = absurd (omega arith)

-- a thread in a line of its own
pub begun : (events : List Event) (n : ℕ) (ls ls' : List (List ℕ)) (old new : List (Option ℕ)) (free : List (List ℕ)) (thread : ℕ) → ls' ≡ (if is_placed old thread then ls else ls ++ (thread ∷ []) ∷ []) → ((u : ℕ) → is_placed new u ≡ (is_placed old u || u == thread)) → ArePlaced events n ls old free → ArePlaced events n ls' new free
begun events n ls ls' old new free thread e placed are =
    elim (cases_Bool (is_placed old thread)) [
      | inl p ↦ record {
        once = λ t. ap (times t) (e ∙ ap (λ (b : Bool). if b then ls else ls ++ (thread ∷ []) ∷ []) p) ∙ are.once t ∙ ap one (sym (placed t ∙ absorbed t p));
        done = λ k ev lt at. placed (doer ev) ∙ or_left (is_placed old (doer ev)) (doer ev == thread) (are.done k ev lt at);
        freed = are.freed;
        joined = subst (All (IsLine events)) (sym (e ∙ ap (λ (b : Bool). if b then ls else ls ++ (thread ∷ []) ∷ []) p)) are.joined;
      }
      | inr p ↦ record {
        once = λ t. once_after t thread (times t ls) (times t ls') old new placed p (are.once t)
            (ap (times t) (e ∙ ap (λ (b : Bool). if b then ls else ls ++ (thread ∷ []) ∷ []) p) ∙ times-push t ls thread);
        done = λ k ev lt at. placed (doer ev) ∙ or_left (is_placed old (doer ev)) (doer ev == thread) (are.done k ev lt at);
        freed = are.freed;
        joined = subst (All (IsLine events)) (sym (e ∙ ap (λ (b : Bool). if b then ls else ls ++ (thread ∷ []) ∷ []) p))
            (All-push (IsLine events) ls (thread ∷ []) are.joined (single_line events thread));
      }
    ]
  where
    absorbed : (t : ℕ) → is_placed old thread ≡ true → (is_placed old t || t == thread) ≡ is_placed old t
    absorbed t p = elim (cases_Bool (t == thread)) [
      | inl q ↦ (let here : is_placed old t ≡ true = subst (λ (u : ℕ). is_placed old u ≡ true) (sym (eqb-true t thread q)) p in or_left (is_placed old t) (t == thread) here ∙ sym here)
      | inr q ↦ or_none (is_placed old t) (t == thread) q
    ]

-- an event whose thread is placed
pub stepped : (events : List Event) (n : ℕ) (ls : List (List ℕ)) (line_of : List (Option ℕ)) (free : List (List ℕ)) (e : Event) → slice_get events n ≡ Some e → is_placed line_of (doer e) ≡ true → ArePlaced events n ls line_of free → ArePlaced events (n + 1) ls line_of free
stepped events n ls line_of free e at placed are =
    record {
      once = are.once;
      done = λ k ev lt here. elim (cases_lt k n) [
        | inl less ↦ are.done k ev less here
        | inr more ↦ (let same : k ≡ n = omega (arith, lt, more) in
            let equal : e ≡ ev = same_Some e ev (sym at ∙ ap (slice_get events) (sym same) ∙ here) in
            subst (λ (x : Event). is_placed line_of (doer x) ≡ true) equal placed)
      ];
      freed = λ by a among. let f = are.freed by a among in
          record { join = f.join; before = (let b = f.before in omega (arith, b)); joined = f.joined; over = f.over };
      joined = are.joined;
    }

-- a line with one more behind its last
line_more : (events : List Event) (ts : List ℕ) (a b : ℕ) → IsLine events ts → slice_get ts (length ts - 1) ≡ Some a → Follows events a b → IsLine events (ts ++ b ∷ [])
line_more events ts a b line last follows i lt =
    let len = length_push ts b in
    elim (cases_lt (i + 1) (length ts)) [
      | inl less ↦ subst₂ (Follows events)
          (sym (get_or_append_left ts (b ∷ []) 0 i (omega (arith, less))))
          (sym (get_or_append_left ts (b ∷ []) 0 (i + 1) less)) (line i less)
      | inr more ↦ (let end : i + 1 ≡ length ts = omega (arith, lt, more, len) in
          let at : i ≡ length ts - 1 = omega (arith, end) in
          subst₂ (Follows events)
          (sym (get_or_append_left ts (b ∷ []) 0 i (omega (arith, end)) ∙ ap (λ (k : ℕ). get_or ts k 0) at ∙ get_or_from_slice_get ts (length ts - 1) a 0 last))
          (sym (ap (λ (k : ℕ). get_or (ts ++ b ∷ []) k 0) end ∙ get_or_at ts b [] 0 (length ts) refl)) follows)
    ]

-- a thread that is started behind one that was joined
pub put_behind : (events : List Event) (n : ℕ) (ls ls' : List (List ℕ)) (old new : List (Option ℕ)) (free : List (List ℕ)) (by thread line a : ℕ) → slice_get events n ≡ Some (Start by thread) → is_placed old thread ≡ false → Contains (get_or free by []) a → EndsWith ls line a → ls' ≡ set ls line (get_or ls line [] ++ thread ∷ []) → ((u : ℕ) → is_placed new u ≡ (is_placed old u || u == thread)) → ArePlaced events (n + 1) ls old free → ArePlaced events (n + 1) ls' new free
put_behind events n ls ls' old new free by thread line a at fresh among ends e placed are =
    let f = are.freed by a among in
    let follows : Follows events a thread = record {
      by = by;
      join = f.join;
      start = n;
      later = elim (cases_lt f.join n) [
        | inl less ↦ less
        | inr more ↦ (let before = f.before in let same : f.join ≡ n = omega (arith, before, more) in
            absurd (join_is_no_start by a by thread (same_Some (Join by a) (Start by thread) (sym f.joined ∙ ap (slice_get events) same ∙ at))))
      ];
      joined = f.joined;
      started = at;
      over = f.over;
      fresh = λ k ev lt here same. absurd_bool (is_placed old (doer ev)) (are.done k ev (omega (arith, lt)) here) (subst (λ (u : ℕ). is_placed old u ≡ false) (sym same) fresh);
    } in
    record {
      once = λ t. once_after t thread (times t ls) (times t ls') old new placed fresh (are.once t) (ap (times t) e ∙ times-set t ls line thread ends.0);
      done = λ k ev lt here. placed (doer ev) ∙ or_left (is_placed old (doer ev)) (doer ev == thread) (are.done k ev lt here);
      freed = are.freed;
      joined = subst (All (IsLine events)) (sym e)
          (All-set (IsLine events) ls line (get_or ls line [] ++ thread ∷ [])
          (line_more events (get_or ls line []) a thread (All-get_or (IsLine events) ls line [] ends.0 are.joined) ends.1 follows) are.joined);
    }
  where
    join_is_no_start : (a b c d : ℕ) → Join a b ≡ Start c d → ⊥
    join_is_no_start a b c d e = cc

-- fewer that are free
pub freed_fewer : (events : List Event) (n : ℕ) (ls : List (List ℕ)) (line_of : List (Option ℕ)) (free less : List (List ℕ)) → ((by a : ℕ) → Contains (get_or less by []) a → Contains (get_or free by []) a) → ArePlaced events n ls line_of free → ArePlaced events n ls line_of less
freed_fewer events n ls line_of free less fewer are =
    record { once = are.once; done = are.done; freed = λ by a among. are.freed by a (fewer by a among); joined = are.joined }

-- a thread that was joined and does nothing later
pub freed_more : (events : List Event) (n : ℕ) (ls : List (List ℕ)) (line_of : List (Option ℕ)) (free more : List (List ℕ)) (lasts : List ℕ) (by thread : ℕ) → slice_get events n ≡ Some (Join by thread) → AreLasts events (length events) lasts → slice_index lasts thread ≤ n + 1 → ((x : ℕ) → get_or more x [] ≡ (if x == by then get_or free x [] ++ thread ∷ [] else get_or free x [])) → ArePlaced events (n + 1) ls line_of free → ArePlaced events (n + 1) ls line_of more
freed_more events n ls line_of free more lasts by thread at are_lasts low rows are =
    record {
      once = are.once;
      done = are.done;
      freed = λ x a among. elim (cases_Bool (x == by)) [
        | inl q ↦ (let same = eqb-true x by q in
            elim (Contains-push_cases (get_or free x []) thread a (subst (λ (xs : List ℕ). Contains xs a) (rows x ∙ ap (λ (b : Bool). if b then get_or free x [] ++ thread ∷ [] else get_or free x []) q) among)) [
              | inl old ↦ are.freed x a old
              | inr new ↦ subst₂ (λ (u v : ℕ). IsFree events (n + 1) u v) (sym same) new here
            ])
        | inr q ↦ are.freed x a (subst (λ (xs : List ℕ). Contains xs a) (rows x ∙ ap (λ (b : Bool). if b then get_or free x [] ++ thread ∷ [] else get_or free x []) q) among)
      ];
      joined = are.joined;
    }
  where
    here : IsFree events (n + 1) by thread
    here = record {
      join = n;
      before = omega arith;
      joined = at;
      over = λ k ev lt found same.
          let last = are_lasts k ev (slice_get_within events k ev found) found in
          let this = ap (slice_index lasts) same in
          omega (arith, lt, last, this, low);
    }

-- at the end
pub placed_once : (events : List Event) (ls : List (List ℕ)) (line_of : List (Option ℕ)) (free : List (List ℕ)) → ArePlaced events (length events) ls line_of free → AreOnce events ls
placed_once events ls line_of free are =
    record {
      most = λ t. at_most (is_placed line_of t) (times t ls) (are.once t);
      each = λ k e at. are.once (doer e) ∙ ap one (are.done k e (slice_get_within events k e at) at);
    }
  where
    at_most : (b : Bool) (n : ℕ) → n ≡ one b → n ≤ 1
    at_most true n e = omega (arith, e)
    at_most false n e = omega (arith, e)

-- the thread of an event is in a line
pub begun_event : (events : List Event) (n : ℕ) (ls ls' : List (List ℕ)) (old new : List (Option ℕ)) (free : List (List ℕ)) (thread : ℕ) (e : Event) → ls' ≡ (if is_placed old thread then ls else ls ++ (thread ∷ []) ∷ []) → ((u : ℕ) → is_placed new u ≡ (is_placed old u || u == thread)) → thread ≡ doer e → slice_get events n ≡ Some e → ArePlaced events n ls old free → ArePlaced events (n + 1) ls' new free
begun_event events n ls ls' old new free thread e is placed whose at are =
    stepped events n ls' new free e at
    (placed (doer e) ∙ or_right (is_placed old (doer e)) (doer e == thread) (eq-eqb (doer e) thread (sym whose)))
    (begun events n ls ls' old new free thread is placed are)
