-- How often locks are held, by the words of a history and by the counts that are kept.
use Rattle.std.proofs.Common.{◌≡◌, ◌↔◌, ℕ, suc, ◌-◌, ◌<◌, ◌≤◌, true, false, ◌&&◌, eqb, refl, ap, sym, ◌∙◌, subst, inl, inr, arith, List, [], ◌∷◌, length, get_or, set, get_or-set_same, get_or-set_other, length-set}
use Rattle.std.specs.Prelude.{if◌then◌else◌, not, nat_lt, Option, Some, None, IsSome, IfSome, MatchOption}
use Rattle.std.proofs.lemmas.Bool.{eqb-true, eqb-false, eq-eqb, ltb-true, lt-ltb, and_left, and_right, and_from, and_parts, cases_Bool, false≢true, not-false}
use Rattle.dim_base.specs.declared.Tid.{Tid}
use Rattle.dim_base.specs.declared.Lid.{Lid}
use Rattle.dim_stack.specs.declared.Frame.{Frame}
use Rattle.dim_rag.specs.declared.entry.Edge.{Edge}
use Rattle.dim_rag.specs.declared.entry.Entry.{Entry}
use Rattle.dim_rag.specs.declared.entry.Entry.TheVariants.{Go, Yield, Got, Free, Took, Miss, End, Break, Learn}
use Rattle.dim_rag.specs.History.{are, count, is_deeper, is_inner, is_about, hold, hold_by, mode}
use Rattle.dim_rag.specs.Fits.{FitsAfter, IsUnheld, MayTake}
use Rattle.dim_rag.specs.Counts.{count_of, times_held, count_by, IsQuiet, QuietLaw}
use Rattle.dim_rag.specs.Rows.{IsHolder, IsCount, may_take_by}
use Rattle.dim_rag.proofs.Words.{same, same_pair, hold-about, hold-other, allow-other, mode-word, mode-other}
use Rattle.dim_rag.proofs.Holders.{holder_is}

-- a thread and a lock that are t and l
pub pair_of : (t l : ℕ) (u : Tid) (m : Lid) → are t l u m ≡ true → (u.0 ≡ t) × (m.0 ≡ l)
pair_of t l u m p = let q = and_parts (eqb u.0 t) (eqb m.0 l) p in (eqb-true u.0 t q.0, eqb-true m.0 l q.1)

-- a word that gives a hold edge leaves the lock held
new_counts : (t l : ℕ) (e : Entry) (h : List Entry) → is_about t l e h ≡ true → IsSome (hold_by t l (e ∷ h)) → is_deeper t l (e ∷ h) ≡ true
new_counts t l (Got u m) h a k = ap (λ b. nat_lt 0 (if b then 1 else count t l h)) a
new_counts t l (Took u m s) h a k =
    ap (λ b. nat_lt 0 (if b then suc (count t l h) else count t l h)) (and_parts (are t l u m) (not (is_deeper t l h)) a).0 ∙ lt-ltb 0 (suc (count t l h)) (omega arith)
new_counts t l (Go u m s) h a k = absurd (false≢true k)
new_counts t l (Yield u m s sig b) h a k = absurd (false≢true k)
new_counts t l (Free u m) h a k = absurd (false≢true k)
new_counts t l (Miss u m s why) h a k = absurd (false≢true k)
new_counts t l (End u why) h a k = absurd (false≢true k)
new_counts t l (Break set u) h a k = absurd (false≢true k)
new_counts t l (Learn b) h a k = absurd (false≢true k)

-- an entry that is no word about it leaves a held lock held
old_counts : (t l : ℕ) (e : Entry) (h : List Entry) → is_about t l e h ≡ false → is_deeper t l h ≡ true → is_deeper t l (e ∷ h) ≡ true
old_counts t l (Got u m) h a k = ap (λ b. nat_lt 0 (if b then 1 else count t l h)) a ∙ k
old_counts t l (Took u m s) h a k = elim (cases_Bool (are t l u m)) [
  | inl p ↦ ap (λ b. nat_lt 0 (if b then suc (count t l h) else count t l h)) p ∙ lt-ltb 0 (suc (count t l h)) (omega arith)
  | inr p ↦ ap (λ b. nat_lt 0 (if b then suc (count t l h) else count t l h)) p ∙ k
]
old_counts t l (Free u m) h a k = elim (cases_Bool (are t l u m)) [
  | inl p ↦
      let i : is_inner t l h ≡ true = not-false (is_inner t l h) (sym (ap (λ b. b && not (is_inner t l h)) p) ∙ a) in
      let more : 1 < count t l h = ltb-true 1 (count t l h) i in
      ap (λ b. nat_lt 0 (if b then count t l h - 1 else count t l h)) p ∙ lt-ltb 0 (count t l h - 1) (omega (arith, more))
  | inr p ↦ ap (λ b. nat_lt 0 (if b then count t l h - 1 else count t l h)) p ∙ k
]
old_counts t l (Go u m s) h a k = k
old_counts t l (Yield u m s sig b) h a k = k
old_counts t l (Miss u m s why) h a k = k
old_counts t l (End u why) h a k = k
old_counts t l (Break set u) h a k = k
old_counts t l (Learn b) h a k = k

-- in each list, who has a hold edge on a lock holds it once or more
pub held_counts : (t l : ℕ) (h : List Entry) → IsSome (hold t l h) → is_deeper t l h ≡ true
held_counts t l [] k = absurd (false≢true k)
held_counts t l (e ∷ h) k = elim (cases_Bool (is_about t l e h)) [
  | inl a ↦ new_counts t l e h a (subst (λ (o : Option Edge). IsSome o) (hold-about t l e h a) k)
  | inr a ↦ old_counts t l e h a (held_counts t l h (subst (λ (o : Option Edge). IsSome o) (hold-other t l e h a) k))
]

-- an entry that changes but a count is a word about no lock
pub quiet_about : (e : Entry) (h : List Entry) → IsQuiet h e → (t l : ℕ) → is_about t l e h ≡ false
quiet_about (Took u m s) h q t l = elim (cases_Bool (are t l u m)) [
  | inl p ↦
      let w = pair_of t l u m p in
      and_right (are t l u m) (not (is_deeper t l h)) (ap not (ap (λ x. is_deeper x l h) (sym w.0) ∙ ap (λ y. is_deeper u.0 y h) (sym w.1) ∙ q))
  | inr p ↦ and_left (are t l u m) (not (is_deeper t l h)) p
]
quiet_about (Free u m) h q t l = elim (cases_Bool (are t l u m)) [
  | inl p ↦
      let w = pair_of t l u m p in
      and_right (are t l u m) (not (is_inner t l h)) (ap not (ap (λ x. is_inner x l h) (sym w.0) ∙ ap (λ y. is_inner u.0 y h) (sym w.1) ∙ q))
  | inr p ↦ and_left (are t l u m) (not (is_inner t l h)) p
]
quiet_about (Go u m s) h q t l = absurd q
quiet_about (Yield u m s sig b) h q t l = absurd q
quiet_about (Got u m) h q t l = absurd q
quiet_about (Miss u m s why) h q t l = absurd q
quiet_about (End u why) h q t l = absurd q
quiet_about (Break set u) h q t l = absurd q
quiet_about (Learn b) h q t l = absurd q

quiet_mode : (e : Entry) (h : List Entry) → FitsAfter h e → IsQuiet h e → (t : ℕ) → mode t (e ∷ h) ≡ mode t h
quiet_mode (Took u m s) h f q t = elim (cases_Bool (eqb u.0 t)) [
  | inl p ↦ mode-word t (Took u m s) h p ∙ sym f.0 ∙ ap (λ x. mode x h) (eqb-true u.0 t p)
  | inr p ↦ mode-other t (Took u m s) h p
]
quiet_mode (Free u m) h f q t = elim (cases_Bool (eqb u.0 t)) [
  | inl p ↦ mode-word t (Free u m) h p ∙ sym f.0 ∙ ap (λ x. mode x h) (eqb-true u.0 t p)
  | inr p ↦ mode-other t (Free u m) h p
]
quiet_mode (Go u m s) h f q t = absurd q
quiet_mode (Yield u m s sig b) h f q t = absurd q
quiet_mode (Got u m) h f q t = absurd q
quiet_mode (Miss u m s why) h f q t = absurd q
quiet_mode (End u why) h f q t = absurd q
quiet_mode (Break set u) h f q t = absurd q
quiet_mode (Learn b) h f q t = absurd q

pub quiet_law : QuietLaw
quiet_law = record {
  allow_is = λ e h q t l. allow-other t l e h (quiet_about e h q t l);
  hold_is = λ e h q t l. hold-other t l e h (quiet_about e h q t l);
  mode_is = λ e h f q t. quiet_mode e h f.0 q t;
}

-- who has the hold edge holds the lock so often
pub owner_count : (l : ℕ) (o : Option Edge) (n : ℕ) (h : List Entry) → IsHolder l o h → IsCount l o n h → (t : ℕ) → IsSome (hold t l h) → (count t l h ≡ n) × (1 ≤ n)
owner_count l None n h k c t s = absurd (false≢true (subst (λ (o : Option Edge). IsSome o) (k t) s))
owner_count l (Some x) n h k c t s = elim (cases_Bool (eqb x.t.0 t)) [
  | inl p ↦ (c.count_is t ∙ ap (λ b. if b then n else 0) p, c.held)
  | inr p ↦ absurd (false≢true (subst (λ (o : Option Edge). IsSome o) (k t ∙ ap (λ b. if b then Some x else None) p) s))
]

-- who has none doesn't
pub other_count : (l : ℕ) (o : Option Edge) (n : ℕ) (h : List Entry) → IsHolder l o h → IsCount l o n h → (t : ℕ) → hold t l h ≡ None → count t l h ≡ 0
other_count l None n h k c t s = c.count_is t
other_count l (Some x) n h k c t s = elim (cases_Bool (eqb x.t.0 t)) [
  | inl p ↦ absurd (let q : Some x ≡ None = sym (ap (λ b. if b then Some x else None) p) ∙ sym (k t) ∙ s in cc)
  | inr p ↦ c.count_is t ∙ ap (λ b. if b then n else 0) p
]

pub unheld_none : (l : ℕ) (o : Option Edge) (h : List Entry) → IsHolder l o h → IsUnheld l h → o ≡ None
unheld_none l None h k n = refl
unheld_none l (Some x) h k n = absurd (let q : Some x ≡ None = sym (ap (λ b. if b then Some x else None) (same x.t.0)) ∙ sym (k x.t.0) ∙ n x.t.0 in cc)

-- a lock that nobody holds is held no time
pub unheld_count : (l : ℕ) (o : Option Edge) (n : ℕ) (h : List Entry) → IsHolder l o h → IsCount l o n h → IsUnheld l h → n ≡ 0
unheld_count l o n h k c u = subst (λ (x : Option Edge). MatchOption x (n ≡ 0) (λ e. 1 ≤ n)) (unheld_none l o h k u) c.held

count_of_is : (l : ℕ) (o : Option Edge) (n : ℕ) (h : List Entry) → IsCount l o n h → count_of l h o ≡ n
count_of_is l None n h c = sym c.held
count_of_is l (Some x) n h c = c.count_is x.t.0 ∙ ap (λ b. if b then n else 0) (same x.t.0)

-- what is kept is how often the holder holds the lock
pub times_is : (threads l : ℕ) (o : Option Edge) (n : ℕ) (h : List Entry) → IsHolder l o h → IsCount l o n h → IfSome o (λ e. e.t.0 < threads) → times_held threads l h ≡ n
times_is threads l o n h k c i = ap (count_of l h) (holder_is threads l o h k i) ∙ count_of_is l o n h c

-- each count is that of the history
abbrev pub AreCounts : List (Option Edge) → List ℕ → List Entry → Type 0
AreCounts holders counts h = (l : ℕ) → l < length holders → IsCount l (get_or holders l None) (get_or counts l 0) h

count_stays : (l : ℕ) (o : Option Edge) (n : ℕ) (e : Entry) (h : List Entry) → ((t : ℕ) → count t l (e ∷ h) ≡ count t l h) → IsCount l o n h → IsCount l o n (e ∷ h)
count_stays l o n e h same k = record { count_is = λ t. same t ∙ k.count_is t; held = k.held; most = k.most }

-- one count is written
count_put : (holders holders' : List (Option Edge)) (counts : List ℕ) (e : Entry) (h : List Entry) (m n : ℕ) → m < length counts
    → ((l : ℕ) → eqb m l ≡ false → get_or holders' l None ≡ get_or holders l None) → ((t l : ℕ) → eqb m l ≡ false → count t l (e ∷ h) ≡ count t l h)
    → length holders' ≡ length holders → AreCounts holders counts h → IsCount m (get_or holders' m None) n (e ∷ h) → AreCounts holders' (set counts m n) (e ∷ h)
count_put holders holders' counts e h m n low same_holder same_count size k own l lt =
    elim (cases_Bool (eqb m l)) [
      | inl q ↦ subst (λ (v : ℕ). IsCount v (get_or holders' v None) (get_or (set counts m n) v 0) (e ∷ h)) (eqb-true m l q)
          (subst (λ (x : ℕ). IsCount m (get_or holders' m None) x (e ∷ h)) (sym (get_or-set_same counts m n 0 low)) own)
      | inr q ↦ subst (λ (x : ℕ). IsCount l (get_or holders' l None) x (e ∷ h)) (sym (get_or-set_other counts m l n 0 (λ x. eqb-false m l q (sym x))))
          (subst (λ (o : Option Edge). IsCount l o (get_or counts l 0) (e ∷ h)) (sym (same_holder l q))
          (count_stays l (get_or holders l None) (get_or counts l 0) e h (λ t. same_count t l q) (k l (rw size at lt))))
    ]

-- no count is written
pub counts_stay : (holders : List (Option Edge)) (counts : List ℕ) (e : Entry) (h : List Entry) → ((t l : ℕ) → count t l (e ∷ h) ≡ count t l h) → AreCounts holders counts h → AreCounts holders counts (e ∷ h)
counts_stay holders counts e h same k l lt = count_stays l (get_or holders l None) (get_or counts l 0) e h (λ t. same t l) (k l lt)

-- the counts on one lock, by that of one thread and those of the others
count_each : (u m : ℕ) (o : Option Edge) (n : ℕ) (h : List Entry) → count u m h ≡ count_by u o n → ((t : ℕ) → eqb u t ≡ false → count t m h ≡ count_by t o n) → (t : ℕ) → count t m h ≡ count_by t o n
count_each u m o n h own others t = elim (cases_Bool (eqb u t)) [
  | inl q ↦ subst (λ (v : ℕ). count v m h ≡ count_by v o n) (eqb-true u t q) own
  | inr q ↦ others t q
]

module _ (u : Tid) (m : Lid) (x : Edge) (h : List Entry) (e : x.t.0 ≡ u.0) where
  mine : (n : ℕ) → count_by u.0 (Some x) n ≡ n
  mine n = ap (λ b. if b then n else 0) (eq-eqb x.t.0 u.0 e)

  theirs : (n t : ℕ) → eqb u.0 t ≡ false → count_by t (Some x) n ≡ 0
  theirs n t q = ap (λ b. if b then n else 0) (ap (λ v. eqb v t) e ∙ q)

  -- a Got of a lock that nobody held
  got_count : ((t : ℕ) → count t m.0 h ≡ 0) → IsCount m.0 (Some x) 1 (Got u m ∷ h)
  got_count free =
      let one : 1 ≤ 1 = omega arith in
      record {
        count_is = count_each u.0 m.0 (Some x) 1 (Got u m ∷ h)
            (ap (λ b. if b then 1 else count u.0 m.0 h) (same_pair u.0 m.0) ∙ sym (mine 1))
            (λ t q. ap (λ b. if b then 1 else count t m.0 h) (and_left (eqb u.0 t) (eqb m.0 m.0) q) ∙ free t ∙ sym (theirs 1 t q));
        held = one;
        most = omega arith;
      }

  took_own : (s : List Frame) (n : ℕ) → count u.0 m.0 h ≡ n → count u.0 m.0 (Took u m s ∷ h) ≡ count_by u.0 (Some x) (suc n)
  took_own s n k = ap (λ b. if b then suc (count u.0 m.0 h) else count u.0 m.0 h) (same_pair u.0 m.0) ∙ ap suc k ∙ sym (mine (suc n))

  took_other : (s : List Frame) (n t : ℕ) → eqb u.0 t ≡ false → count t m.0 h ≡ 0 → count t m.0 (Took u m s ∷ h) ≡ count_by t (Some x) (suc n)
  took_other s n t q k = ap (λ b. if b then suc (count t m.0 h) else count t m.0 h) (and_left (eqb u.0 t) (eqb m.0 m.0) q) ∙ k ∙ sym (theirs (suc n) t q)

  -- a Took by u, who holds the lock so often, and whom the others don't share it with
  took_count : (s : List Frame) (n : ℕ) → count u.0 m.0 h ≡ n → n < 255 → ((t : ℕ) → eqb u.0 t ≡ false → count t m.0 h ≡ 0) → IsCount m.0 (Some x) (suc n) (Took u m s ∷ h)
  took_count s n own few others =
      let one : 1 ≤ suc n = omega arith in
      record {
        count_is = count_each u.0 m.0 (Some x) (suc n) (Took u m s ∷ h) (took_own s n own) (λ t q. took_other s n t q (others t q));
        held = one;
        most = omega (arith, few);
      }

  free_own : (n : ℕ) → count u.0 m.0 h ≡ n → count u.0 m.0 (Free u m ∷ h) ≡ n - 1
  free_own n k = ap (λ b. if b then count u.0 m.0 h - 1 else count u.0 m.0 h) (same_pair u.0 m.0) ∙ ap (λ c. c - 1) k

  free_other : (t : ℕ) → eqb u.0 t ≡ false → count t m.0 h ≡ 0 → count t m.0 (Free u m ∷ h) ≡ 0
  free_other t q k = ap (λ b. if b then count t m.0 h - 1 else count t m.0 h) (and_left (eqb u.0 t) (eqb m.0 m.0) q) ∙ k

  -- a Free by u that is inner
  inner_count : (n : ℕ) → count u.0 m.0 h ≡ n → 1 < n → n ≤ 255 → ((t : ℕ) → eqb u.0 t ≡ false → count t m.0 h ≡ 0) → IsCount m.0 (Some x) (n - 1) (Free u m ∷ h)
  inner_count n own more most others =
      let one : 1 ≤ n - 1 = omega (arith, more) in
      record {
        count_is = count_each u.0 m.0 (Some x) (n - 1) (Free u m ∷ h) (free_own n own ∙ sym (mine (n - 1))) (λ t q. free_other t q (others t q) ∙ sym (theirs (n - 1) t q));
        held = one;
        most = omega (arith, most);
      }

  -- a Free by u that isn't
  last_count : (n : ℕ) → count u.0 m.0 h ≡ n → n ≤ 1 → ((t : ℕ) → eqb u.0 t ≡ false → count t m.0 h ≡ 0) → IsCount m.0 None (n - 1) (Free u m ∷ h)
  last_count n own few others =
      let none : n - 1 ≡ 0 = omega (arith, few) in
      record {
        count_is = count_each u.0 m.0 None (n - 1) (Free u m ∷ h) (free_own n own ∙ none) (λ t q. free_other t q (others t q));
        held = none;
        most = omega (arith, few);
      }

-- the owner of a hold edge, where it is that of u
pub owner_is : (u l : ℕ) (o : Option Edge) (h : List Entry) → IsHolder l o h → IsSome (hold u l h) → (x : Edge) × (o ≡ Some x) × (x.t.0 ≡ u)
owner_is u l None h k s = absurd (false≢true (subst (λ (o : Option Edge). IsSome o) (k u) s))
owner_is u l (Some x) h k s = elim (cases_Bool (eqb x.t.0 u)) [
  | inl p ↦ (x, refl, eqb-true x.t.0 u p)
  | inr p ↦ absurd (false≢true (subst (λ (o : Option Edge). IsSome o) (k u ∙ ap (λ b. if b then Some x else None) p) s))
]

-- nobody but the owner of a hold edge holds the lock
pub others_none : (u l : ℕ) (x : Edge) (n : ℕ) (h : List Entry) → x.t.0 ≡ u → IsCount l (Some x) n h → (t : ℕ) → eqb u t ≡ false → count t l h ≡ 0
others_none u l x n h e c t q = c.count_is t ∙ ap (λ b. if b then n else 0) (ap (λ v. eqb v t) e ∙ q)

module _ (holders : List (Option Edge)) (counts : List ℕ) (h : List Entry) (size : length counts ≡ length holders) (a : (l : ℕ) (d : Option Edge) → l < length holders → IsHolder l (get_or holders l d) h) (k : AreCounts holders counts h) where
  -- a Got writes one holder and one count
  pub got_counts : (u : Tid) (m : Lid) (x : Edge) → x.t.0 ≡ u.0 → m.0 < length holders → IsUnheld m.0 h → AreCounts (set holders m.0 (Some x)) (set counts m.0 1) (Got u m ∷ h)
  got_counts u m x e low free =
      count_put holders (set holders m.0 (Some x)) counts (Got u m) h m.0 1 (rw size low)
      (λ l q. get_or-set_other holders m.0 l (Some x) None (λ y. eqb-false m.0 l q (sym y)))
      (λ t l q. ap (λ b. if b then 1 else count t l h) (and_right (eqb u.0 t) (eqb m.0 l) q))
      (length-set holders m.0 (Some x)) k
      (subst (λ (o : Option Edge). IsCount m.0 o 1 (Got u m ∷ h)) (sym (get_or-set_same holders m.0 (Some x) None low))
      (got_count u m x h e (λ t. other_count m.0 (get_or holders m.0 None) (get_or counts m.0 0) h (a m.0 None low) (k m.0 low) t (free t))))

  took_elsewhere : (u : Tid) (m : Lid) (s : List Frame) (t l : ℕ) → eqb m.0 l ≡ false → count t l (Took u m s ∷ h) ≡ count t l h
  took_elsewhere u m s t l q = ap (λ b. if b then suc (count t l h) else count t l h) (and_right (eqb u.0 t) (eqb m.0 l) q)

  -- so does a Took of a lock that nobody held
  pub took_counts : (u : Tid) (m : Lid) (s : List Frame) (x : Edge) → x.t.0 ≡ u.0 → m.0 < length holders → IsUnheld m.0 h
      → AreCounts (set holders m.0 (Some x)) (set counts m.0 (suc (get_or counts m.0 0))) (Took u m s ∷ h)
  took_counts u m s x e low free =
      let n : ℕ = get_or counts m.0 0 in
      let none : n ≡ 0 = unheld_count m.0 (get_or holders m.0 None) n h (a m.0 None low) (k m.0 low) free in
      let each : (t : ℕ) → count t m.0 h ≡ 0 = λ t. other_count m.0 (get_or holders m.0 None) n h (a m.0 None low) (k m.0 low) t (free t) in
      count_put holders (set holders m.0 (Some x)) counts (Took u m s) h m.0 (suc n) (rw size low)
      (λ l q. get_or-set_other holders m.0 l (Some x) None (λ y. eqb-false m.0 l q (sym y)))
      (took_elsewhere u m s) (length-set holders m.0 (Some x)) k
      (subst (λ (o : Option Edge). IsCount m.0 o (suc n) (Took u m s ∷ h)) (sym (get_or-set_same holders m.0 (Some x) None low))
      (took_count u m x h e s n (each u.0 ∙ sym none) (omega (arith, none)) (λ t q. each t)))

  -- a deeper Took writes a count alone
  pub deeper_counts : (u : Tid) (m : Lid) (s : List Frame) → m.0 < length holders → IsSome (hold u.0 m.0 h) → count u.0 m.0 h < 255
      → AreCounts holders (set counts m.0 (suc (get_or counts m.0 0))) (Took u m s ∷ h)
  deeper_counts u m s low some few =
      let n : ℕ = get_or counts m.0 0 in
      let w = owner_is u.0 m.0 (get_or holders m.0 None) h (a m.0 None low) some in
      let c : IsCount m.0 (Some w.0) n h = subst (λ (o : Option Edge). IsCount m.0 o n h) w.1 (k m.0 low) in
      let own : count u.0 m.0 h ≡ n = (owner_count m.0 (get_or holders m.0 None) n h (a m.0 None low) (k m.0 low) u.0 some).0 in
      count_put holders holders counts (Took u m s) h m.0 (suc n) (rw size low) (λ l q. refl) (took_elsewhere u m s) refl k
      (subst (λ (o : Option Edge). IsCount m.0 o (suc n) (Took u m s ∷ h)) (sym w.1) (took_count u m w.0 h w.2 s n own (omega (arith, own, few)) (others_none u.0 m.0 w.0 n h w.2 c)))

  free_elsewhere : (u : Tid) (m : Lid) (t l : ℕ) → eqb m.0 l ≡ false → count t l (Free u m ∷ h) ≡ count t l h
  free_elsewhere u m t l q = ap (λ b. if b then count t l h - 1 else count t l h) (and_right (eqb u.0 t) (eqb m.0 l) q)

  -- an inner Free writes a count alone
  pub inner_counts : (u : Tid) (m : Lid) → m.0 < length holders → IsSome (hold u.0 m.0 h) → 1 < get_or counts m.0 0
      → AreCounts holders (set counts m.0 (get_or counts m.0 0 - 1)) (Free u m ∷ h)
  inner_counts u m low some more =
      let n : ℕ = get_or counts m.0 0 in
      let w = owner_is u.0 m.0 (get_or holders m.0 None) h (a m.0 None low) some in
      let c : IsCount m.0 (Some w.0) n h = subst (λ (o : Option Edge). IsCount m.0 o n h) w.1 (k m.0 low) in
      let own : count u.0 m.0 h ≡ n = (owner_count m.0 (get_or holders m.0 None) n h (a m.0 None low) (k m.0 low) u.0 some).0 in
      count_put holders holders counts (Free u m) h m.0 (n - 1) (rw size low) (λ l q. refl) (free_elsewhere u m) refl k
      (subst (λ (o : Option Edge). IsCount m.0 o (n - 1) (Free u m ∷ h)) (sym w.1) (inner_count u m w.0 h w.2 n own more c.most (others_none u.0 m.0 w.0 n h w.2 c)))

  -- another Free writes the holder too
  pub free_counts : (u : Tid) (m : Lid) → m.0 < length holders → IsSome (hold u.0 m.0 h) → get_or counts m.0 0 ≤ 1
      → AreCounts (set holders m.0 None) (set counts m.0 (get_or counts m.0 0 - 1)) (Free u m ∷ h)
  free_counts u m low some few =
      let n : ℕ = get_or counts m.0 0 in
      let w = owner_is u.0 m.0 (get_or holders m.0 None) h (a m.0 None low) some in
      let c : IsCount m.0 (Some w.0) n h = subst (λ (o : Option Edge). IsCount m.0 o n h) w.1 (k m.0 low) in
      let own : count u.0 m.0 h ≡ n = (owner_count m.0 (get_or holders m.0 None) n h (a m.0 None low) (k m.0 low) u.0 some).0 in
      count_put holders (set holders m.0 None) counts (Free u m) h m.0 (n - 1) (rw size low)
      (λ l q. get_or-set_other holders m.0 l None None (λ y. eqb-false m.0 l q (sym y)))
      (free_elsewhere u m) (length-set {A = Option Edge} holders m.0 None) k
      (subst (λ (o : Option Edge). IsCount m.0 o (n - 1) (Free u m ∷ h)) (sym (get_or-set_same holders m.0 None None low))
      (last_count u m w.0 h w.2 n own few (others_none u.0 m.0 w.0 n h w.2 c)))

  -- a Took that fits has room in its count
  pub took_room : (u : Tid) (m : Lid) → m.0 < length holders → MayTake u.0 m.0 h → get_or counts m.0 0 < 255
  took_room u m low (inl free) =
      let none : get_or counts m.0 0 ≡ 0 = unheld_count m.0 (get_or holders m.0 None) (get_or counts m.0 0) h (a m.0 None low) (k m.0 low) free in
      omega (arith, none)
  took_room u m low (inr w) =
      let own : count u.0 m.0 h ≡ get_or counts m.0 0 = (owner_count m.0 (get_or holders m.0 None) (get_or counts m.0 0) h (a m.0 None low) (k m.0 low) u.0 w.0).0 in
      let few : count u.0 m.0 h < 255 = w.1 in
      omega (arith, own, few)

-- who may take a lock at once, by what is kept
pub take_is : (t l : ℕ) (o : Option Edge) (n : ℕ) (h : List Entry) → IsHolder l o h → IsCount l o n h → (may_take_by t o n ≡ true) ↔ MayTake t l h
take_is t l None n h k c = (λ q. inl (λ u. k u), λ m. refl)
take_is t l (Some x) n h k c = (
  λ q.
      let p = and_parts (eqb x.t.0 t) (nat_lt n 255) q in
      let held : hold t l h ≡ Some x = k t ∙ ap (λ b. if b then Some x else None) p.0 in
      let own : count t l h ≡ n = c.count_is t ∙ ap (λ b. if b then n else 0) p.0 in
      let few : n < 255 = ltb-true n 255 p.1 in
      inr (subst (λ (o : Option Edge). IsSome o) (sym held) refl, omega (arith, own, few)),
  λ m. elim m [
    | inl free ↦ absurd (let q : Some x ≡ None = unheld_none l (Some x) h k free in cc)
    | inr w ↦
        let y = owner_is t l (Some x) h k w.0 in
        let same_edge : x ≡ y.0 = (let q : Some x ≡ Some y.0 = y.1 in cc) in
        let own : count t l h ≡ n = (owner_count l (Some x) n h k c t w.0).0 in
        let few : count t l h < 255 = w.1 in
        and_from (eqb x.t.0 t) (nat_lt n 255) (eq-eqb x.t.0 t (ap (λ (z : Edge). z.t.0) same_edge ∙ y.2)) (lt-ltb n 255 (omega (arith, own, few)))
  ],
)
