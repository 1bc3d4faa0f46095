-- Rows and holders stay those of the history as it grows.
use Rattle.std.proofs.Common.{◌≡◌, ℕ, suc, ◌+◌, ◌-◌, ◌<◌, ◌≤◌, true, false, ◌&&◌, eqb, refl, ap, sym, ◌∙◌, subst, inl, inr, List, [], ◌∷◌, ◌++◌, length, get_or, set, arith, length-set, get_or-set_same, get_or-set_other}
use Rattle.std.specs.Prelude.{if◌then◌else◌, not, nat_lt, Option, Some, None, IsSome, replicate, All, IfSome}
use Rattle.std.proofs.lemmas.List.{reverse-append, length-reverse, length_push, get_or_past, length-replicate, get_or-replicate}
use Rattle.std.proofs.lemmas.List.Elements.{All-set, All-replicate}
use Rattle.std.proofs.lemmas.Bool.{eqb-true, eqb-false, ltb-true, ltb-false, lt-ltb, and_left, and_right, and_from, cases_Bool, cases_lt, cond_both, false≢true}
use Rattle.dim_base.specs.declared.Tid.{Tid}
use Rattle.dim_base.specs.declared.Lid.{Lid}
use Rattle.dim_stack.specs.declared.Frame.{Frame}
use Rattle.dim_rag.specs.declared.entry.Edge.{Edge}
use Rattle.dim_rag.specs.declared.graph.row.Row.{Row}
use Rattle.dim_rag.specs.declared.entry.Entry.{Entry}
use Rattle.dim_rag.specs.declared.entry.Entry.TheVariants.{Go, Yield, Got, Free, Took, Miss, End, Break, Learn}
use Rattle.dim_rag.specs.declared.entry.Mode.{Mode}
use Rattle.dim_rag.specs.declared.entry.Mode.TheVariants.{Running, Allowed, Yielding, Ended}
use Rattle.dim_rag.specs.History.{past, is_word_of, is_about, is_for, count, latest_wish, latest_grant, hold, hold_by, mode, mode_by, grant}
use Rattle.dim_rag.specs.Fits.{FitsAfter, IsInRange, IsYielding, MayTake}
use Rattle.dim_rag.specs.Tables.{HasLockBelow}
use Rattle.dim_rag.specs.Rows.{IsGraph, IsRow, IsHolder, IsCount, IsMode, allowed_on, row_after, rows_after, holders_after, counts_after, row_of, idle_row, broken, edge_in, HasRoom, count_before}
use Rattle.dim_rag.proofs.Words.{same, same_pair}
use Rattle.dim_rag.proofs.Rows.{row_stays, go_row, yield_row, running_row, got_row, end_row, break_row, old_mode, unallowed_running, unallowed_yielding}
use Rattle.dim_rag.proofs.Counting.{AreCounts, owner_count, other_count, unheld_count, quiet_about, counts_stay, got_counts, took_counts, deeper_counts, inner_counts, free_counts, took_room}
use Rattle.dim_rag.proofs.HolderSteps.{holder_stays, holder_same, holder_new, holder_gone}

-- each row is that of the history
abbrev pub AreRows : List Row → List Entry → Type 0
AreRows rows h = (t : ℕ) (d : Row) → t < length rows → IsRow t (get_or rows t d) h

-- each holder is that of the history
abbrev pub AreHolders : List (Option Edge) → List Entry → Type 0
AreHolders holders h = (l : ℕ) (d : Option Edge) → l < length holders → IsHolder l (get_or holders l d) h

-- one row is written
row_put : (rows : List Row) (e : Entry) (h : List Entry) (u : ℕ) (r : Row) → ((t : ℕ) → is_word_of t e ≡ eqb u t) → u < length rows → AreRows rows h → IsRow u r (e ∷ h) → AreRows (set rows u r) (e ∷ h)
row_put rows e h u r word low k own t d lt =
    elim (cases_Bool (eqb u t)) [
      | inl q ↦ subst (λ (v : ℕ). IsRow v (get_or (set rows u r) v d) (e ∷ h)) (eqb-true u t q) (subst (λ (x : Row). IsRow u x (e ∷ h)) (sym (get_or-set_same rows u r d low)) own)
      | inr q ↦ subst (λ (x : Row). IsRow t x (e ∷ h)) (sym (get_or-set_other rows u t r d (λ x. eqb-false u t q (sym x)))) (row_stays t e (get_or rows t d) h (word t ∙ q) (k t d (rw length-set at lt)))
    ]

-- no row is written
rows_stay : (rows : List Row) (e : Entry) (h : List Entry) → ((t : ℕ) → is_word_of t e ≡ false) → AreRows rows h → AreRows rows (e ∷ h)
rows_stay rows e h word k t d lt = row_stays t e (get_or rows t d) h (word t) (k t d lt)

-- one holder is written
holder_put : (holders : List (Option Edge)) (e : Entry) (h : List Entry) (m : ℕ) (o : Option Edge) → ((t l : ℕ) → eqb m l ≡ false → is_about t l e h ≡ false) → m < length holders → AreHolders holders h → IsHolder m o (e ∷ h) → AreHolders (set holders m o) (e ∷ h)
holder_put holders e h m o about low k own l d lt =
    elim (cases_Bool (eqb m l)) [
      | inl q ↦ subst (λ (v : ℕ). IsHolder v (get_or (set holders m o) v d) (e ∷ h)) (eqb-true m l q) (subst (λ (x : Option Edge). IsHolder m x (e ∷ h)) (sym (get_or-set_same holders m o d low)) own)
      | inr q ↦ subst (λ (x : Option Edge). IsHolder l x (e ∷ h)) (sym (get_or-set_other holders m l o d (λ x. eqb-false m l q (sym x)))) (holder_stays l (get_or holders l d) e h (λ t. about t l q) (k l d (rw length-set at lt)))
    ]

-- no holder is written, under a word of u about m, which it does not hold
holders_stay : (holders : List (Option Edge)) (e : Entry) (h : List Entry) (u m : ℕ) → ((t l : ℕ) → is_about t l e h ≡ (eqb u t && eqb m l)) → hold_by u m (e ∷ h) ≡ None → hold u m h ≡ None → AreHolders holders h → AreHolders holders (e ∷ h)
holders_stay holders e h u m about g n k l d lt =
    elim (cases_Bool (eqb m l)) [
      | inl q ↦ subst (λ (v : ℕ). IsHolder v (get_or holders l d) (e ∷ h)) (eqb-true m l q)
          (holder_same u m (get_or holders l d) e h g n (λ t p. about t m ∙ and_left _ _ p) (subst (λ (v : ℕ). IsHolder v (get_or holders l d) h) (sym (eqb-true m l q)) (k l d lt)))
      | inr q ↦ holder_stays l (get_or holders l d) e h (λ t. about t l ∙ and_right _ _ q) (k l d lt)
    ]

-- no holder is written, under a word about no lock
holders_quiet : (holders : List (Option Edge)) (e : Entry) (h : List Entry) → ((t l : ℕ) → is_about t l e h ≡ false) → AreHolders holders h → AreHolders holders (e ∷ h)
holders_quiet holders e h about k l d lt = holder_stays l (get_or holders l d) e h (λ t. about t l) (k l d lt)

module _ (rows : List Row) (h : List Entry) (k : AreRows rows h) where
  -- the row of a thread
  own : (t : ℕ) → t < length rows → IsRow t (get_or rows t idle_row) h
  own t lt = k t idle_row lt

  -- a thread that runs has no allow edge
  runs_none : (t : ℕ) → t < length rows → mode t h ≡ Running → (l : ℕ) → allowed_on t l (get_or rows t idle_row).mode (get_or rows t idle_row).stack ≡ None
  runs_none t lt e l = unallowed_running (get_or rows t idle_row).mode (old_mode t (get_or rows t idle_row) h (own t lt) Running e) t l (get_or rows t idle_row).stack

  runs_row : (u : ℕ) (e : Entry) → u < length rows → mode u h ≡ Running → is_word_of u e ≡ true → mode_by (e ∷ h) ≡ Running → grant (e ∷ h) ≡ None → IsRow u (record (get_or rows u idle_row) { mode = Running }) (e ∷ h)
  runs_row u e lt m w r g = running_row u e (get_or rows u idle_row) h (own u lt) w r g (λ l p. (own u lt).allow_is l ∙ runs_none u lt m l)

  -- the row of a thread that is broken out
  broken_row : (set : ℕ) (u : Tid) → u.0 < length rows → IsYielding u.0 h → IsRow u.0 (row_after (get_or rows u.0 idle_row) (Break set u) (length h)) (Break set u ∷ h)
  broken_row set u lt y =
      let r = get_or rows u.0 idle_row in
      let e : r.mode ≡ Yielding y.0 y.1 = old_mode u.0 r h (own u.0 lt) (Yielding y.0 y.1) y.2 in
      subst (λ (m : Mode). IsRow u.0 record { mode = broken (length h) m; stack = r.stack; births = r.births } (Break set u ∷ h)) (sym e)
      (break_row set u y.0 y.1 r.stack r.births h (subst (λ (m : Mode). IsRow u.0 record { mode = m; stack = r.stack; births = r.births } h) e (own u.0 lt)))

  -- a thread that yields does not hold what it wants, and its wish is known
  wish_known : (u : ℕ) → u < length rows → (y : IsYielding u h) → (hold u y.0.0 h ≡ None) × (latest_wish u h ≡ Some record { lock = y.0; stack = (get_or rows u idle_row).stack; births = (get_or rows u idle_row).births; place = y.1 })
  wish_known u lt y =
      let r = get_or rows u idle_row in
      subst (λ (m : Mode). IsMode u m r.stack r.births h) (old_mode u r h (own u lt) (Yielding y.0 y.1) y.2) (own u lt).more

  -- the edge of a thread that is allowed, and that it does not hold it yet
  grant_known : (u : Tid) → u.0 < length rows → (m : Lid) (birth : ℕ) → mode u.0 h ≡ Allowed m birth → latest_grant u.0 m.0 h ≡ Some record { t = u; l = m; stack = (get_or rows u.0 idle_row).stack; birth = birth }
  grant_known u lt m birth e =
      let r = get_or rows u.0 idle_row in
      (subst (λ (q : Mode). IsMode u.0 q r.stack r.births h) (old_mode u.0 r h (own u.0 lt) (Allowed m birth) e) (own u.0 lt).more).1

-- the rows after an entry that fits are those of the longer history
pub rows_step : (rows : List Row) (locks : ℕ) (e : Entry) (h : List Entry) → IsInRange (length rows) locks e → FitsAfter h e → AreRows rows h → AreRows (rows_after rows e (length h)) (e ∷ h)
rows_step rows locks (Go u m s) h i f k = row_put rows (Go u m s) h u.0 _ (λ t. refl) i.0 k (go_row u m s (get_or rows u.0 idle_row) h (k u.0 idle_row i.0) f)
rows_step rows locks (Yield u m s sig births) h i f k = row_put rows (Yield u m s sig births) h u.0 _ (λ t. refl) i.0 k (yield_row u m s sig births (get_or rows u.0 idle_row) h (k u.0 idle_row i.0) f)
rows_step rows locks (Got u m) h i f k = row_put rows (Got u m) h u.0 _ (λ t. refl) i.0 k (got_row u m f.0.0 (get_or rows u.0 idle_row) h (k u.0 idle_row i.0) f.0.1)
rows_step rows locks (Free u m) h i f k = row_put rows (Free u m) h u.0 _ (λ t. refl) i.0 k (runs_row rows h k u.0 (Free u m) i.0 f.0 (same u.0) refl refl)
rows_step rows locks (Took u m s) h i f k = row_put rows (Took u m s) h u.0 _ (λ t. refl) i.0 k (runs_row rows h k u.0 (Took u m s) i.0 f.0 (same u.0) refl refl)
rows_step rows locks (Miss u m s why) h i f k = row_put rows (Miss u m s why) h u.0 _ (λ t. refl) i.0 k (runs_row rows h k u.0 (Miss u m s why) i.0 f.0 (same u.0) refl refl)
rows_step rows locks (End u why) h i f k =
    row_put rows (End u why) h u.0 _ (λ t. refl) i k (end_row u (End u why) (get_or rows u.0 idle_row) h (k u.0 idle_row i) (same u.0) refl refl
    (elim f [ inl e ↦ unallowed_running _ (old_mode u.0 (get_or rows u.0 idle_row) h (k u.0 idle_row i) Running e) | inr y ↦ unallowed_yielding _ y.0 y.1 (old_mode u.0 (get_or rows u.0 idle_row) h (k u.0 idle_row i) (Yielding y.0 y.1) y.2) ]))
rows_step rows locks (Break set u) h i f k = row_put rows (Break set u) h u.0 _ (λ t. refl) i k (broken_row rows h k set u i f)
rows_step rows locks (Learn births) h i f k = rows_stay rows (Learn births) h (λ t. refl) k

-- a Break is about the lock of the wish
break_about : (set : ℕ) (u : Tid) (h : List Entry) (m : Lid) (s : List Frame) (b : List ℕ) (p : ℕ) → latest_wish u.0 h ≡ Some record { lock = m; stack = s; births = b; place = p } → (t l : ℕ) → is_about t l (Break set u) h ≡ (eqb u.0 t && eqb m.0 l)
break_about set u h m s b p w t l =
    elim (cases_Bool (eqb u.0 t)) [
      | inl q ↦ ap (λ x. eqb u.0 t && is_for l x) (subst (λ (v : ℕ). latest_wish v h ≡ Some record { lock = m; stack = s; births = b; place = p }) (eqb-true u.0 t q) w)
      | inr q ↦ and_left _ _ q ∙ sym (and_left _ _ q)
    ]

-- another lock's number
off : (u m : ℕ) → (t l : ℕ) → eqb m l ≡ false → (eqb u t && eqb m l) ≡ false
off u m t l q = and_right _ _ q

-- the holder that a thread is, which holds its lock
holder_is : (u : ℕ) (l : ℕ) (o : Option Edge) (h : List Entry) → IsHolder l o h → IsSome (hold u l h) → (t : ℕ) → eqb u t ≡ false → hold t l h ≡ None
holder_is u l None h k s t q = k t
holder_is u l (Some x) h k s t q =
    elim (cases_Bool (eqb x.t.0 u)) [
      | inl p ↦ k t ∙ ap (λ b. if b then Some x else None) (subst (λ (v : ℕ). eqb v t ≡ false) (sym (eqb-true x.t.0 u p)) q)
      | inr p ↦ absurd (false≢true (subst (λ (o : Option Edge). IsSome o) (k u ∙ ap (λ b. if b then Some x else None) p) s))
    ]

-- the holders after an entry that fits are those of the longer history
pub holders_step : (rows : List Row) (holders : List (Option Edge)) (counts : List ℕ) (e : Entry) (h : List Entry) → IsInRange (length rows) (length holders) e → FitsAfter h e → AreRows rows h → AreHolders holders h → AreCounts holders counts h
    → AreHolders (holders_after rows holders counts e (length h)) (e ∷ h)
holders_step rows holders counts (Go u m s) h i f k a c = holders_stay holders (Go u m s) h u.0 m.0 (λ t l. refl) refl f.free a
holders_step rows holders counts (Yield u m s sig births) h i f k a c = holders_stay holders (Yield u m s sig births) h u.0 m.0 (λ t l. refl) refl f.free a
holders_step rows holders counts (Got u m) h i f k a c =
    let r = get_or rows u.0 idle_row in
    let e : edge_in u r.mode r.stack ≡ Some record { t = u; l = m; stack = r.stack; birth = f.0.0 } = ap (λ q. edge_in u q r.stack) (old_mode u.0 r h (k u.0 idle_row i.0) (Allowed m f.0.0) f.0.1) in
    holder_put holders (Got u m) h m.0 _ (λ t l q. off u.0 m.0 t l q) i.1 a (subst (λ (o : Option Edge). IsHolder m.0 o (Got u m ∷ h)) (sym e)
    (holder_new m.0 record { t = u; l = m; stack = r.stack; birth = f.0.0 } (Got u m) h (same_pair u.0 m.0) (grant_known rows h k u i.0 m f.0.0 f.0.1) f.1 (λ t q. and_left _ _ q)))
holders_step rows holders counts (Free u m) h i f k a c =
    let n : ℕ = get_or counts m.0 0 in
    let own : count u.0 m.0 h ≡ n = (owner_count m.0 (get_or holders m.0 None) n h (a m.0 None i.1) (c m.0 i.1) u.0 f.1).0 in
    cond_both (nat_lt 1 n) holders (set holders m.0 None) (λ (hs : List (Option Edge)). AreHolders hs (Free u m ∷ h))
    (λ q. holders_quiet holders (Free u m) h (quiet_about (Free u m) h (ap (nat_lt 1) own ∙ q)) a)
    (λ q. holder_put holders (Free u m) h m.0 None (λ t l z. and_left _ _ (off u.0 m.0 t l z)) i.1 a
    (holder_gone u.0 m.0 None (Free u m) h (and_from _ _ (same_pair u.0 m.0) (ap not (ap (nat_lt 1) own ∙ q))) refl
    (holder_is u.0 m.0 (get_or holders m.0 None) h (a m.0 None i.1) f.1) (λ t z. and_left _ _ (and_left _ _ z))))
holders_step rows holders counts (Took u m s) h i f k a c = by f.1
  where
    n : ℕ
    n = get_or counts m.0 0

    x : Edge
    x = record { t = u; l = m; stack = s; birth = length h }

    by : MayTake u.0 m.0 h → AreHolders (if nat_lt 0 n then holders else set holders m.0 (Some x)) (Took u m s ∷ h)
    by (inl free) =
        let none : n ≡ 0 = unheld_count m.0 (get_or holders m.0 None) n h (a m.0 None i.1) (c m.0 i.1) free in
        let own : count u.0 m.0 h ≡ 0 = other_count m.0 (get_or holders m.0 None) n h (a m.0 None i.1) (c m.0 i.1) u.0 (free u.0) in
        subst (λ b. AreHolders (if b then holders else set holders m.0 (Some x)) (Took u m s ∷ h)) (sym (ap (nat_lt 0) none))
        (holder_put holders (Took u m s) h m.0 (Some x) (λ t l z. and_left _ _ (off u.0 m.0 t l z)) i.1 a
        (holder_new m.0 x (Took u m s) h (and_from _ _ (same_pair u.0 m.0) (ap (λ y. not (nat_lt 0 y)) own)) refl free (λ t z. and_left _ _ (and_left _ _ z))))
    by (inr w) =
        let own = owner_count m.0 (get_or holders m.0 None) n h (a m.0 None i.1) (c m.0 i.1) u.0 w.0 in
        let deep : nat_lt 0 n ≡ true = lt-ltb 0 n (omega (arith, own.1)) in
        subst (λ b. AreHolders (if b then holders else set holders m.0 (Some x)) (Took u m s ∷ h)) (sym deep)
        (holders_quiet holders (Took u m s) h (quiet_about (Took u m s) h (ap (nat_lt 0) own.0 ∙ deep)) a)
holders_step rows holders counts (Miss u m s why) h i f k a c = holders_stay holders (Miss u m s why) h u.0 m.0 (λ t l. refl) refl f.1 a
holders_step rows holders counts (End u why) h i f k a c = holders_quiet holders (End u why) h (λ t l. refl) a
holders_step rows holders counts (Break set u) h i f k a c =
    let w = wish_known rows h k u.0 i f in
    holders_stay holders (Break set u) h u.0 f.0.0 (break_about set u h f.0 (get_or rows u.0 idle_row).stack (get_or rows u.0 idle_row).births f.1 w.1) refl w.0 a
holders_step rows holders counts (Learn births) h i f k a c = holders_quiet holders (Learn births) h (λ t l. refl) a

-- the counts after an entry that fits are those of the longer history
pub counts_step : (rows : List Row) (holders : List (Option Edge)) (counts : List ℕ) (e : Entry) (h : List Entry) → IsInRange (length rows) (length holders) e → FitsAfter h e → length counts ≡ length holders → AreRows rows h → AreHolders holders h → AreCounts holders counts h
    → AreCounts (holders_after rows holders counts e (length h)) (counts_after counts e) (e ∷ h)
counts_step rows holders counts (Go u m s) h i f size k a c = counts_stay holders counts (Go u m s) h (λ t l. refl) c
counts_step rows holders counts (Yield u m s sig births) h i f size k a c = counts_stay holders counts (Yield u m s sig births) h (λ t l. refl) c
counts_step rows holders counts (Got u m) h i f size k a c =
    let r = get_or rows u.0 idle_row in
    let e : edge_in u r.mode r.stack ≡ Some record { t = u; l = m; stack = r.stack; birth = f.0.0 } = ap (λ q. edge_in u q r.stack) (old_mode u.0 r h (k u.0 idle_row i.0) (Allowed m f.0.0) f.0.1) in
    subst (λ (o : Option Edge). AreCounts (set holders m.0 o) (set counts m.0 1) (Got u m ∷ h)) (sym e)
    (got_counts holders counts h size a c u m record { t = u; l = m; stack = r.stack; birth = f.0.0 } refl i.1 f.1)
counts_step rows holders counts (Free u m) h i f size k a c =
    let n : ℕ = get_or counts m.0 0 in
    cond_both (nat_lt 1 n) holders (set holders m.0 None) (λ (hs : List (Option Edge)). AreCounts hs (set counts m.0 (n - 1)) (Free u m ∷ h))
    (λ q. inner_counts holders counts h size a c u m i.1 f.1 (ltb-true 1 n q))
    (λ q. free_counts holders counts h size a c u m i.1 f.1 (ltb-false 1 n q))
counts_step rows holders counts (Took u m s) h i f size k a c = by f.1
  where
    n : ℕ
    n = get_or counts m.0 0

    x : Edge
    x = record { t = u; l = m; stack = s; birth = length h }

    by : MayTake u.0 m.0 h → AreCounts (if nat_lt 0 n then holders else set holders m.0 (Some x)) (set counts m.0 (suc n)) (Took u m s ∷ h)
    by (inl free) =
        let none : n ≡ 0 = unheld_count m.0 (get_or holders m.0 None) n h (a m.0 None i.1) (c m.0 i.1) free in
        subst (λ b. AreCounts (if b then holders else set holders m.0 (Some x)) (set counts m.0 (suc n)) (Took u m s ∷ h)) (sym (ap (nat_lt 0) none))
        (took_counts holders counts h size a c u m s x refl i.1 free)
    by (inr w) =
        let own = owner_count m.0 (get_or holders m.0 None) n h (a m.0 None i.1) (c m.0 i.1) u.0 w.0 in
        subst (λ b. AreCounts (if b then holders else set holders m.0 (Some x)) (set counts m.0 (suc n)) (Took u m s ∷ h)) (sym (lt-ltb 0 n (omega (arith, own.1))))
        (deeper_counts holders counts h size a c u m s i.1 w.0 w.1)
counts_step rows holders counts (Miss u m s why) h i f size k a c = counts_stay holders counts (Miss u m s why) h (λ t l. refl) c
counts_step rows holders counts (End u why) h i f size k a c = counts_stay holders counts (End u why) h (λ t l. refl) c
counts_step rows holders counts (Break set u) h i f size k a c = counts_stay holders counts (Break set u) h (λ t l. refl) c
counts_step rows holders counts (Learn births) h i f size k a c = counts_stay holders counts (Learn births) h (λ t l. refl) c

pub length_counts : (counts : List ℕ) (e : Entry) → length (counts_after counts e) ≡ length counts
length_counts counts (Go u m s) = refl
length_counts counts (Yield u m s sig births) = refl
length_counts counts (Got u m) = length-set _ _ _
length_counts counts (Free u m) = length-set _ _ _
length_counts counts (Took u m s) = length-set _ _ _
length_counts counts (Miss u m s why) = refl
length_counts counts (End u why) = refl
length_counts counts (Break set u) = refl
length_counts counts (Learn births) = refl

-- the newest entry comes first
pub past_more : (entries : List Entry) (e : Entry) → past (entries ++ e ∷ []) ≡ e ∷ past entries
past_more entries e = reverse-append entries (e ∷ [])

pub length_rows : (rows : List Row) (e : Entry) (place : ℕ) → length (rows_after rows e place) ≡ length rows
length_rows rows (Go u m s) place = length-set _ _ _
length_rows rows (Yield u m s sig births) place = length-set _ _ _
length_rows rows (Got u m) place = length-set _ _ _
length_rows rows (Free u m) place = length-set _ _ _
length_rows rows (Took u m s) place = length-set _ _ _
length_rows rows (Miss u m s why) place = length-set _ _ _
length_rows rows (End u why) place = length-set _ _ _
length_rows rows (Break set u) place = length-set _ _ _
length_rows rows (Learn births) place = refl

pub length_holders : (rows : List Row) (holders : List (Option Edge)) (counts : List ℕ) (e : Entry) (place : ℕ) → length (holders_after rows holders counts e place) ≡ length holders
length_holders rows holders counts (Go u m s) place = refl
length_holders rows holders counts (Yield u m s sig births) place = refl
length_holders rows holders counts (Got u m) place = length-set _ _ _
length_holders rows holders counts (Free u m) place =
    cond_both (nat_lt 1 (get_or counts m.0 0)) holders (set holders m.0 None) (λ (hs : List (Option Edge)). length hs ≡ length holders) (λ q. refl) (λ q. length-set {A = Option Edge} holders m.0 None)
length_holders rows holders counts (Took u m s) place =
    let x : Edge = record { t = u; l = m; stack = s; birth = place } in
    cond_both (nat_lt 0 (get_or counts m.0 0)) holders (set holders m.0 (Some x)) (λ (hs : List (Option Edge)). length hs ≡ length holders) (λ q. refl) (λ q. length-set holders m.0 (Some x))
length_holders rows holders counts (Miss u m s why) place = refl
length_holders rows holders counts (End u why) place = refl
length_holders rows holders counts (Break set u) place = refl
length_holders rows holders counts (Learn births) place = refl

-- the edge of a thread is one of it
edge_in_range : (threads : ℕ) (u : Tid) (m : Mode) (s : List Frame) → u.0 < threads → IfSome (edge_in u m s) (λ x. x.t.0 < threads)
edge_in_range threads u (Allowed l birth) s lt = lt
edge_in_range threads u Running s lt = tt
edge_in_range threads u (Yielding l place) s lt = tt
edge_in_range threads u (Ended place) s lt = tt

-- the holders are threads
holders_in_step : (threads locks : ℕ) (rows : List Row) (holders : List (Option Edge)) (counts : List ℕ) (e : Entry) (place : ℕ) → IsInRange threads locks e → All (λ o. IfSome o (λ x. x.t.0 < threads)) holders → All (λ o. IfSome o (λ x. x.t.0 < threads)) (holders_after rows holders counts e place)
holders_in_step threads locks rows holders counts (Go u m s) place i k = k
holders_in_step threads locks rows holders counts (Yield u m s sig births) place i k = k
holders_in_step threads locks rows holders counts (Got u m) place i k =
    All-set (λ o. IfSome o (λ x. x.t.0 < threads)) holders m.0 _ (edge_in_range threads u (row_of rows (Got u m)).mode (row_of rows (Got u m)).stack i.0) k
holders_in_step threads locks rows holders counts (Free u m) place i k =
    cond_both (nat_lt 1 (get_or counts m.0 0)) holders (set holders m.0 None) (All (λ o. IfSome o (λ x. x.t.0 < threads))) (λ q. k) (λ q. All-set (λ o. IfSome o (λ x. x.t.0 < threads)) holders m.0 None tt k)
holders_in_step threads locks rows holders counts (Took u m s) place i k =
    let y : Edge = record { t = u; l = m; stack = s; birth = place } in
    cond_both (nat_lt 0 (get_or counts m.0 0)) holders (set holders m.0 (Some y)) (All (λ o. IfSome o (λ x. x.t.0 < threads))) (λ q. k) (λ q. All-set (λ o. IfSome o (λ x. x.t.0 < threads)) holders m.0 (Some y) i.0 k)
holders_in_step threads locks rows holders counts (Miss u m s why) place i k = k
holders_in_step threads locks rows holders counts (End u why) place i k = k
holders_in_step threads locks rows holders counts (Break set u) place i k = k
holders_in_step threads locks rows holders counts (Learn births) place i k = k

-- a broken mode has the lock that it had
broken_below : (m place : ℕ) (q : Mode) → HasLockBelow m q → HasLockBelow m (broken place q)
broken_below m place (Allowed l birth) k = k
broken_below m place (Yielding l p) k = k
broken_below m place Running k = tt
broken_below m place (Ended p) k = tt

-- the row of the entry's thread, where all rows have their locks in range
row_below : (m : ℕ) (rows : List Row) (t : ℕ) → All (λ r. HasLockBelow m r.mode) rows → HasLockBelow m (get_or rows t idle_row).mode
row_below m rows t k = elim (cases_lt t (length rows)) [ inl lt ↦ k t idle_row lt | inr le ↦ subst (λ (r : Row). HasLockBelow m r.mode) (sym (get_or_past rows t idle_row le)) tt ]

-- the locks of modes stay in range
modes_in_step : (threads locks : ℕ) (rows : List Row) (e : Entry) (place : ℕ) → IsInRange threads locks e → All (λ r. HasLockBelow locks r.mode) rows → All (λ r. HasLockBelow locks r.mode) (rows_after rows e place)
modes_in_step threads locks rows (Go u m s) place i k = All-set (λ r. HasLockBelow locks r.mode) rows u.0 _ i.1 k
modes_in_step threads locks rows (Yield u m s sig births) place i k = All-set (λ r. HasLockBelow locks r.mode) rows u.0 _ i.1 k
modes_in_step threads locks rows (Got u m) place i k = All-set (λ r. HasLockBelow locks r.mode) rows u.0 _ tt k
modes_in_step threads locks rows (Free u m) place i k = All-set (λ r. HasLockBelow locks r.mode) rows u.0 _ tt k
modes_in_step threads locks rows (Took u m s) place i k = All-set (λ r. HasLockBelow locks r.mode) rows u.0 _ tt k
modes_in_step threads locks rows (Miss u m s why) place i k = All-set (λ r. HasLockBelow locks r.mode) rows u.0 _ tt k
modes_in_step threads locks rows (End u why) place i k = All-set (λ r. HasLockBelow locks r.mode) rows u.0 _ tt k
modes_in_step threads locks rows (Break set u) place i k = All-set (λ r. HasLockBelow locks r.mode) rows u.0 _ (broken_below locks place (get_or rows u.0 idle_row).mode (row_below locks rows u.0 k)) k
modes_in_step threads locks rows (Learn births) place i k = k

-- a lock that is taken may be taken once more
pub graph_room : (threads locks spare : ℕ) (rows : List Row) (holders : List (Option Edge)) (counts : List ℕ) (entries : List Entry) (e : Entry)
    → IsGraph threads locks spare rows holders counts entries → IsInRange threads locks e → FitsAfter (past entries) e → HasRoom e (count_before counts e)
graph_room threads locks spare rows holders counts entries (Took u m s) a i f =
    took_room holders counts (past entries) (a.count_count ∙ sym a.holder_count) (λ l d lt. a.each_holder l d (rw a.holder_count at lt)) (λ l lt. a.each_count l (rw a.holder_count at lt))
    u m (rw a.holder_count i.1) f.1
graph_room threads locks spare rows holders counts entries (Go u m s) a i f = tt
graph_room threads locks spare rows holders counts entries (Yield u m s sig births) a i f = tt
graph_room threads locks spare rows holders counts entries (Got u m) a i f = tt
graph_room threads locks spare rows holders counts entries (Free u m) a i f = tt
graph_room threads locks spare rows holders counts entries (Miss u m s why) a i f = tt
graph_room threads locks spare rows holders counts entries (End u why) a i f = tt
graph_room threads locks spare rows holders counts entries (Break set u) a i f = tt
graph_room threads locks spare rows holders counts entries (Learn births) a i f = tt

-- the graph after an entry that fits is that of the longer list
pub graph_more : (threads locks spare : ℕ) (rows : List Row) (holders : List (Option Edge)) (counts : List ℕ) (entries : List Entry) (e : Entry)
    → IsGraph threads locks spare rows holders counts entries → 1 ≤ spare → IsInRange threads locks e → FitsAfter (past entries) e
    → IsGraph threads locks (spare - 1) (rows_after rows e (length entries)) (holders_after rows holders counts e (length entries)) (counts_after counts e) (entries ++ e ∷ [])
graph_more threads locks spare rows holders counts entries e a one i f =
    let n : length (past entries) ≡ length entries = length-reverse entries in
    let i' : IsInRange (length rows) (length holders) e = subst (λ (x : ℕ). IsInRange x (length holders) e) (sym a.row_count) (subst (λ (x : ℕ). IsInRange threads x e) (sym a.holder_count) i) in
    let k : AreRows rows (past entries) = λ t d lt. a.each_row t d (rw a.row_count at lt) in
    let o : AreHolders holders (past entries) = λ l d lt. a.each_holder l d (rw a.holder_count at lt) in
    let c : AreCounts holders counts (past entries) = λ l lt. a.each_count l (rw a.holder_count at lt) in
    let size : length counts ≡ length holders = a.count_count ∙ sym a.holder_count in
    let more : length (entries ++ e ∷ []) ≡ length entries + 1 = length_push entries e in
    record {
      some_threads = a.some_threads;
      few_threads = a.few_threads;
      few_locks = a.few_locks;
      row_count = length_rows rows e (length entries) ∙ a.row_count;
      holder_count = length_holders rows holders counts e (length entries) ∙ a.holder_count;
      count_count = length_counts counts e ∙ a.count_count;
      small = omega (arith, more, a.small, one);
      each_row = λ t d lt. rw past_more (subst (λ (x : ℕ). IsRow t (get_or (rows_after rows e x) t d) (e ∷ past entries)) n (rows_step rows (length holders) e (past entries) i' f k t d (rw (length_rows rows e (length (past entries)), a.row_count) lt)));
      each_holder = λ l d lt. rw past_more (subst (λ (x : ℕ). IsHolder l (get_or (holders_after rows holders counts e x) l d) (e ∷ past entries)) n (holders_step rows holders counts e (past entries) i' f k o c l d (rw (length_holders rows holders counts e (length (past entries)), a.holder_count) lt)));
      each_count = λ l lt. rw past_more (subst (λ (x : ℕ). IsCount l (get_or (holders_after rows holders counts e x) l None) (get_or (counts_after counts e) l 0) (e ∷ past entries)) n (counts_step rows holders counts e (past entries) i' f size k o c l (rw (length_holders rows holders counts e (length (past entries)), a.holder_count) lt)));
      holders_in = holders_in_step threads locks rows holders counts e (length entries) i a.holders_in;
      modes_in = modes_in_step threads locks rows e (length entries) i a.modes_in;
      all_fit = rw past_more (f, a.all_fit);
      all_in_range = rw past_more (i, a.all_in_range);
    }

-- at first each thread runs, and nobody holds a lock
pub graph_first : (threads locks : ℕ) (r : Row) → 1 ≤ threads → threads ≤ 32 → locks ≤ 256 → r.mode ≡ Running → IsGraph threads locks 0 (replicate threads r) (replicate locks None) (replicate locks 0) []
graph_first threads locks r some few few_locks e = record {
  some_threads = some;
  few_threads = few;
  few_locks = few_locks;
  row_count = length-replicate threads r;
  holder_count = length-replicate {A = Option Edge} locks None;
  count_count = length-replicate locks 0;
  small = omega arith;
  each_row = λ t d lt. subst (λ (x : Row). IsRow t x []) (sym (get_or-replicate threads t r d lt)) record {
    mode_is = sym e;
    allow_is = λ l. sym (unallowed_running r.mode e t l r.stack);
    more = subst (λ (m : Mode). IsMode t m r.stack r.births []) (sym e) tt;
  };
  each_holder = λ l d lt. subst (λ (x : Option Edge). IsHolder l x []) (sym (get_or-replicate locks l None d lt)) (λ t. refl);
  each_count = λ l lt.
      subst (λ (n : ℕ). IsCount l (get_or (replicate locks None) l None) n []) (sym (get_or-replicate locks l 0 0 lt))
      (subst (λ (o : Option Edge). IsCount l o 0 []) (sym (get_or-replicate locks l None None lt)) record { count_is = λ t. refl; held = refl; most = omega arith });
  holders_in = All-replicate (λ (o : Option Edge). IfSome o (λ e. e.t.0 < threads)) locks None tt;
  modes_in = All-replicate (λ (x : Row). HasLockBelow locks x.mode) threads r (subst (λ (m : Mode). HasLockBelow locks m) (sym e) tt);
  all_fit = tt;
  all_in_range = tt;
}
