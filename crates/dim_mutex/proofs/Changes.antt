-- What the holdings of a thread are after an entry more.
use Rattle.std.proofs.Common.{◌≡◌, ℕ, suc, ◌+◌, ◌-◌, ◌<◌, ◌≤◌, Bool, true, false, ◌&&◌, eqb, refl, ap, sym, ◌∙◌, subst, inl, inr, List, ◌∷◌, ◌++◌, length, set, get_or, arith}
use Rattle.std.specs.Prelude.{Option, Some, not, if◌then◌else◌, nat_lt}
use Rattle.std.proofs.lemmas.Bool.{eqb-true, and_right, cases_Bool, eqb-false}
use Rattle.std.proofs.lemmas.List.{get_or-set_same, get_or-set_other, length-set}
use Rattle.dim_base.specs.declared.Tid.{Tid}
use Rattle.dim_base.specs.declared.Lid.{Lid}
use Rattle.dim_stack.specs.declared.Frame.{Frame}
use Rattle.dim_rag.specs.declared.entry.Entry.{Entry}
use Rattle.dim_rag.specs.declared.entry.Entry.TheVariants.{Go, Yield, Got, Free, Took, Miss}
use Rattle.dim_rag.specs.declared.entry.MissWhy.{MissWhy}
use Rattle.dim_rag.specs.declared.entry.Mode.{Mode}
use Rattle.dim_rag.specs.declared.entry.Mode.TheVariants.{Running, Allowed, Yielding, Ended}
use Rattle.dim_rag.specs.declared.entry.Edge.{Edge}
use Rattle.dim_rag.specs.History.{past, mode, count, latest_wish, Wish}
use Rattle.dim_rag.proofs.Exports.{allow-about, mode-word, same, same_pair}
use Rattle.dim_gate.specs.Known.{stack_of}
use Rattle.dim_mutex.specs.declared.holdings.Holdings.{Holdings}
use Rattle.dim_mutex.specs.Standing.{OwedLaw, is_running, is_allowed, stack_wished, wanted_in, wanted_at, holds_at, owed_at, all_locks}
use Rattle.dim_mutex.specs.Holdings.{AreHoldings, wanted_by}
use Rattle.dim_mutex.proofs.Between.{NoWords, mode_on, wish_on, allow_on, count_on}
use Rattle.dim_mutex.proofs.Held.{held_same, held_more, held_most}

-- behind entries that are none of its words
wanted_on : (t : ℕ) (newer h : List Entry) (k : NoWords t newer) (m : Mode) → wanted_in t (newer ++ h) m ≡ wanted_in t h m
wanted_on t newer h k Running = refl
wanted_on t newer h k (Allowed l birth) = ap (λ x. Some (l, stack_of x)) (allow_on t l.0 newer h k)
wanted_on t newer h k (Yielding l place) = ap (λ x. Some (l, stack_wished x)) (wish_on t newer h k)
wanted_on t newer h k (Ended place) = refl

pub wanted_same : (t : ℕ) (newer h : List Entry) → NoWords t newer → wanted_at t (newer ++ h) ≡ wanted_at t h
wanted_same t newer h k = ap (wanted_in t (newer ++ h)) (mode_on t newer h k) ∙ wanted_on t newer h k (mode t h)

pub holds_same : (t l : ℕ) (newer h : List Entry) → NoWords t newer → holds_at t l (newer ++ h) ≡ holds_at t l h
holds_same t l newer h k = ap (nat_lt 0) (count_on t l newer h k)

pub owed_same : (t : ℕ) (newer h : List Entry) → NoWords t newer → owed_at t (newer ++ h) ≡ owed_at t h
owed_same t newer h k = held_same all_locks (λ l. holds_at t l h) (λ l. holds_at t l (newer ++ h)) (λ l lt. holds_same t l newer h k)

pub holdings_on : (t : ℕ) (newer h : List Entry) (b : Holdings) → NoWords t newer → AreHoldings t h b → AreHoldings t (newer ++ h) b
holdings_on t newer h b k a = record {
  size = a.size;
  counts = λ l. count_on t l newer h k ∙ a.counts l;
  owed_is = a.owed_is ∙ sym (owed_same t newer h k);
  wanted_is = wanted_same t newer h k ∙ a.wanted_is;
  running = ap is_running (mode_on t newer h k) ∙ a.running;
}

-- behind a Go
module _ (t : Tid) (l : Lid) (s : List Frame) (h : List Entry) where
  go_mode : mode t.0 (Go t l s ∷ h) ≡ Allowed l (length h)
  go_mode = mode-word t.0 (Go t l s) h (same t.0)

  pub go_allowed : is_allowed (mode t.0 (Go t l s ∷ h)) ≡ true
  go_allowed = ap is_allowed go_mode

  pub go_wants : wanted_at t.0 (Go t l s ∷ h) ≡ Some (l, s)
  go_wants = ap (wanted_in t.0 (Go t l s ∷ h)) go_mode ∙ ap (λ (x : Option Edge). Some (l, stack_of x)) (allow-about t.0 l.0 (Go t l s) h (same_pair t.0 l.0))

  pub after_go : (b : Holdings) → AreHoldings t.0 h b → AreHoldings t.0 (Go t l s ∷ h) (record b { wants = true; lock = l; stack = s })
  after_go b a = record { size = a.size; counts = a.counts; owed_is = a.owed_is; wanted_is = go_wants; running = ap is_running go_mode }

-- behind a Yield
module _ (t : Tid) (l : Lid) (s : List Frame) (sig : ℕ) (births : List ℕ) (h : List Entry) where
  yield_mode : mode t.0 (Yield t l s sig births ∷ h) ≡ Yielding l (length h)
  yield_mode = mode-word t.0 (Yield t l s sig births) h (same t.0)

  abbrev wish : Wish
  wish = record { lock = l; stack = s; births = births; place = length h }

  pub yield_wants : wanted_at t.0 (Yield t l s sig births ∷ h) ≡ Some (l, s)
  yield_wants = ap (wanted_in t.0 (Yield t l s sig births ∷ h)) yield_mode ∙ ap (λ (c : Bool). Some (l, stack_wished (if c then Some wish else latest_wish t.0 h))) (same t.0)

  pub after_yield : (b : Holdings) → AreHoldings t.0 h b → AreHoldings t.0 (Yield t l s sig births ∷ h) (record b { wants = true; lock = l; stack = s })
  after_yield b a = record { size = a.size; counts = a.counts; owed_is = a.owed_is; wanted_is = yield_wants; running = ap is_running yield_mode }

-- from one history to another t holds l so often, and each other lock as it did
pub record Changes (t l n : ℕ) (h h' : List Entry) : Type 0 where
  pub at : count t l h' ≡ n
  pub others : (m : ℕ) → eqb l m ≡ false → count t m h' ≡ count t m h

both_off : (t l m : ℕ) → eqb l m ≡ false → (eqb t t && eqb l m) ≡ false
both_off t l m q = and_right (eqb t t) (eqb l m) q

pub got_changes : (t : Tid) (l : Lid) (h : List Entry) → Changes t.0 l.0 1 h (Got t l ∷ h)
got_changes t l h = record {
  at = ap (λ (c : Bool). if c then 1 else count t.0 l.0 h) (same_pair t.0 l.0);
  others = λ m q. ap (λ (c : Bool). if c then 1 else count t.0 m h) (both_off t.0 l.0 m q);
}

pub took_changes : (t : Tid) (l : Lid) (s : List Frame) (h : List Entry) → count t.0 l.0 h ≡ 0 → Changes t.0 l.0 1 h (Took t l s ∷ h)
took_changes t l s h none = record {
  at = ap (λ (c : Bool). if c then suc (count t.0 l.0 h) else count t.0 l.0 h) (same_pair t.0 l.0) ∙ ap suc none;
  others = λ m q. ap (λ (c : Bool). if c then suc (count t.0 m h) else count t.0 m h) (both_off t.0 l.0 m q);
}

pub free_changes : (t : Tid) (l : Lid) (h : List Entry) → count t.0 l.0 h ≡ 1 → Changes t.0 l.0 0 h (Free t l ∷ h)
free_changes t l h once = record {
  at = ap (λ (c : Bool). if c then count t.0 l.0 h - 1 else count t.0 l.0 h) (same_pair t.0 l.0) ∙ ap (λ n. n - 1) once;
  others = λ m q. ap (λ (c : Bool). if c then count t.0 m h - 1 else count t.0 m h) (both_off t.0 l.0 m q);
}

-- what changes so of what is held, and of how many
pub low_lock : (l : ℕ) → l < 256 → l < all_locks
unfolding all_locks
low_lock l lt = lt

locks_are : all_locks ≡ 256
unfolding all_locks
locks_are = refl

-- and how many are held at most
owed_most : (t : ℕ) (h : List Entry) → owed_at t h ≤ 256
owed_most t h = subst (λ n. owed_at t h ≤ n) locks_are (held_most all_locks (λ l. holds_at t l h))

pub owed_law : OwedLaw
owed_law k = owed_most k.number (past k.seen)

pub now_held : (t l : ℕ) (h h' : List Entry) → Changes t l 1 h h' → holds_at t l h' ≡ true
now_held t l h h' c = ap (nat_lt 0) c.at

pub now_free : (t l : ℕ) (h h' : List Entry) → Changes t l 0 h h' → holds_at t l h' ≡ false
now_free t l h h' c = ap (nat_lt 0) c.at

pub others_held : (t l n : ℕ) (h h' : List Entry) → Changes t l n h h' → (m : ℕ) → eqb l m ≡ false → holds_at t m h' ≡ holds_at t m h
others_held t l n h h' c m q = ap (nat_lt 0) (c.others m q)

pub owes_more : (t l : ℕ) (h h' : List Entry) → l < 256 → count t l h ≡ 0 → Changes t l 1 h h' → owed_at t h' ≡ owed_at t h + 1
owes_more t l h h' low none c = held_more all_locks l (λ i. holds_at t i h) (λ i. holds_at t i h') (low_lock l low) (ap (nat_lt 0) none) (now_held t l h h' c) (others_held t l 1 h h' c)

pub owes_less : (t l : ℕ) (h h' : List Entry) → l < 256 → count t l h ≡ 1 → Changes t l 0 h h' → owed_at t h ≡ owed_at t h' + 1
owes_less t l h h' low once c = held_more all_locks l (λ i. holds_at t i h') (λ i. holds_at t i h) (low_lock l low) (now_free t l h h' c) (ap (nat_lt 0) once) (λ i q. sym (others_held t l 0 h h' c i q))

-- counts by a list of flags
counted : (t l n : ℕ) (flag : Bool) (h h' : List Entry) (b : Holdings) → l < 256 → AreHoldings t h b → Changes t l n h h' → n ≡ (if flag then 1 else 0) → (m : ℕ) → count t m h' ≡ (if get_or (set b.held l flag) m false then 1 else 0)
counted t l n flag h h' b low a c is m = elim (cases_Bool (eqb l m)) [
  | inl q ↦
      let e : l ≡ m = eqb-true l m q in
      ap (λ x. count t x h') (sym e) ∙ c.at ∙ is
      ∙ ap (λ (x : Bool). if x then 1 else 0) (sym (get_or-set_same b.held l flag false (subst (λ x. l < x) (sym a.size) low)))
      ∙ ap (λ x. if get_or (set b.held l flag) x false then 1 else 0) e
  | inr q ↦ c.others m q ∙ a.counts m ∙ ap (λ (x : Bool). if x then 1 else 0) (sym (get_or-set_other b.held l m flag false (λ e. eqb-false l m q (sym e))))
]

-- what holdings are once a lock was taken, and it runs
pub after_taking : (t l : ℕ) (h h' : List Entry) (b : Holdings) → l < 256 → count t l h ≡ 0 → Changes t l 1 h h' → mode t h' ≡ Running → AreHoldings t h b → AreHoldings t h' (record b { held = set b.held l true; owed = b.owed + 1; wants = false })
after_taking t l h h' b low none c runs a = record {
  size = length-set b.held l true ∙ a.size;
  counts = counted t l 1 true h h' b low a c refl;
  owed_is = ap (λ n. n + 1) a.owed_is ∙ sym (owes_more t l h h' low none c);
  wanted_is = ap (wanted_in t h') runs;
  running = ap is_running runs;
}

-- and once it was given back
pub after_freeing : (t l : ℕ) (h h' : List Entry) (b : Holdings) → l < 256 → count t l h ≡ 1 → Changes t l 0 h h' → mode t h' ≡ Running → b.wants ≡ false → AreHoldings t h b → AreHoldings t h' (record b { held = set b.held l false; owed = b.owed - 1 })
after_freeing t l h h' b low once c runs waits a = record {
  size = length-set b.held l false ∙ a.size;
  counts = counted t l 0 false h h' b low a c refl;
  owed_is = (let x = a.owed_is in let y = owes_less t l h h' low once c in omega (arith, x, y));
  wanted_is = ap (wanted_in t h') runs ∙ ap (λ w. wanted_by w b.lock b.stack) (sym waits);
  running = ap is_running runs ∙ ap not (sym waits);
}

-- behind a Miss of one that runs
pub after_miss : (t : Tid) (l : Lid) (s : List Frame) (why : MissWhy) (h : List Entry) (b : Holdings) → b.wants ≡ false → AreHoldings t.0 h b → AreHoldings t.0 (Miss t l s why ∷ h) b
after_miss t l s why h b waits a =
    let runs : mode t.0 (Miss t l s why ∷ h) ≡ Running = mode-word t.0 (Miss t l s why) h (same t.0) in
    record {
      size = a.size;
      counts = a.counts;
      owed_is = a.owed_is;
      wanted_is = ap (wanted_in t.0 (Miss t l s why ∷ h)) runs ∙ ap (λ w. wanted_by w b.lock b.stack) (sym waits);
      running = ap is_running runs ∙ ap not (sym waits);
    }
