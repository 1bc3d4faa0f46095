-- What a call leaves of a caller that stands so.
use Rattle.std.proofs.Common.{◌≡◌, ℕ, ◌+◌, ◌-◌, ◌<◌, ◌≤◌, Bool, true, false, eqb, refl, ap, sym, ◌∙◌, subst, inl, inr, ◌⊎◌, ◌&&◌, List, [], ◌∷◌, ◌++◌, set, get_or, arith}
use Rattle.std.specs.Prelude.{Option, Some, None, if◌then◌else◌, nat_lt, not}
use Rattle.std.proofs.lemmas.Bool.{ltb-true, ltb-false, false≢true, and_from, eq-eqb}
use Rattle.std.proofs.lemmas.Option.{same_Some}
use Rattle.std.proofs.lemmas.Slice.Eq.{slice_eq-Decides}
use Rattle.std.specs.Cmp.Lexicographic.{pointwise}
use Rattle.dim_stack.specs.Order.{frame_eq}
use Rattle.dim_stack.proofs.Exports.{Decides-frame}
use Rattle.dim_base.specs.declared.Tid.{Tid}
use Rattle.dim_base.specs.declared.Lid.{Lid}
use Rattle.dim_stack.specs.declared.Frame.{Frame}
use Rattle.dim_rag.specs.declared.entry.Edge.{Edge}
use Rattle.dim_rag.specs.declared.entry.Entry.{Entry}
use Rattle.dim_rag.specs.declared.entry.Entry.TheVariants as entry
use Rattle.dim_rag.specs.declared.entry.MissWhy.{MissWhy}
use Rattle.dim_rag.specs.declared.entry.MissWhy.TheVariants as why
use Rattle.dim_rag.specs.declared.entry.Mode.{Mode}
use Rattle.dim_rag.specs.declared.entry.Mode.TheVariants.{Running, Allowed, Yielding}
use Rattle.dim_rag.specs.declared.entry.Named.{Named}
use Rattle.dim_rag.specs.declared.command.Command.{Command}
use Rattle.dim_rag.specs.declared.command.Command.TheVariants.{Request, Acquire, Release, Try}
use Rattle.dim_rag.specs.declared.command.Reply.{Reply}
use Rattle.dim_rag.specs.declared.command.Reply.TheVariants as reply
use Rattle.dim_rag.specs.History.{past, mode, count, hold, latest_wish, Wish}
use Rattle.dim_rag.specs.Holder.{holder}
use Rattle.dim_rag.specs.Edges.{edges, standing, standing_in}
use Rattle.dim_rag.specs.Asks.{may_ask, has_stack}
use Rattle.dim_rag.specs.Fits.{Fits, AreInRange}
use Rattle.dim_rag.proofs.Exports.{hold_below, mode-word, past_more, same, wish_of, holder_of}
use Rattle.dim_gate.specs.Threads.{Answer, only, with, yield_or_go, busy_or_got, still_or, miss_or, avoid_or_took}
use Rattle.dim_gate.specs.Gate.{Constants}
use Rattle.dim_gate.specs.Answer.{answer, MayGive}
use Rattle.dim_gate.specs.Legal.{Legal}
use Rattle.dim_gate.proofs.Exports.{fits, in_range}
use Rattle.dim_run.specs.Callers.{Opening, Known, IsCaller, IsAsked, told}
use Rattle.dim_run.specs.Door.{IsWoken}
use Rattle.dim_run.specs.Seats.{thread_of}
use Rattle.dim_run.proofs.Exports.{awake_on, caller_on, led_legal, none_between}
use Rattle.dim_mutex.specs.declared.holdings.Holdings.{Holdings}
use Rattle.dim_mutex.specs.Standing.{is_running, is_allowed, mode_of, wanted, wanted_at, wanted_in, holds, holds_at, owed, owed_at, all_locks, stack_wished, HoldsSame, HasTaken, HasFreed}
use Rattle.dim_mutex.specs.Views.{IsSound}
use Rattle.dim_mutex.specs.Holdings.{AreHoldings, KeepsHoldings, kept_for, wanted_by}
use Rattle.dim_mutex.specs.Calls.{HasRoom}
use Rattle.dim_mutex.specs.Steps.{MayRequest, runs, woken, IsWokenOn, Requested, Requests, Acquired, Acquires, Stands, Released}
use Rattle.dim_mutex.proofs.Between.{NoWords, no_words, mode_on, count_on, wish_on}
use Rattle.dim_mutex.proofs.Held.{held_same, held_some}
use Rattle.dim_mutex.proofs.Changes.{low_lock, holdings_on, holds_same, owed_same, wanted_same, after_go, after_yield, after_taking, after_freeing, after_miss, go_allowed, go_wants, yield_wants, Changes, got_changes, took_changes, free_changes, now_held, now_free, others_held, owes_more, owes_less}
use Rattle.dim_mutex.proofs.Replies.{none_held, held_edge, cover, request_is, try_is, allowed_is, yielding_is, release_is, waiting}

-- one that does not hold a lock has a count of 0 on it
pub none_counted : (n : ℕ) → nat_lt 0 n ≡ false → n ≡ 0
none_counted n q = (let z = ltb-false 0 n q in omega (arith, z))

-- a call of a sound gate, by a caller that keeps its holdings
module _ (o : Opening) (sound : IsSound o) (k : Known) (b : Holdings) (kept : KeepsHoldings k b) (caller : IsCaller o k) (cmd : Command) (r : Reply) (k' : Known) (a : IsAsked o k k' cmd r) where
  abbrev c : Constants
  c = o.constants

  abbrev t : Tid
  t = thread_of k

  -- what was found, the newest entry first
  abbrev h : List Entry
  h = past a.found

  low : k.number < c.threads
  low = subst (λ n. k.number < n) sound.callers_are caller.low

  legal : Legal c h
  legal = led_legal o k.number (past k.mine) h sound.legal a.led

  pub fit : Fits h
  fit = fits c h legal

  pub range : AreInRange c.threads c.locks h
  range = in_range c h legal

  abbrev newer : List Entry
  newer = a.goes_on.0

  longer : h ≡ newer ++ past k.seen
  longer = a.goes_on.1

  pub silent : NoWords k.number newer
  silent = no_words o k.number (past k.mine) h (past k.seen) newer sound.callers_are a.led caller.led longer

  pub are : AreHoldings k.number h b
  are = subst (λ (x : List Entry). AreHoldings k.number x b) (sym longer) (holdings_on k.number newer (past k.seen) b silent kept.are)

  pub mode_there : mode k.number h ≡ mode_of k
  mode_there = ap (mode k.number) longer ∙ mode_on k.number newer (past k.seen) silent

  pub wish_there : latest_wish k.number h ≡ latest_wish k.number (past k.seen)
  wish_there = ap (latest_wish k.number) longer ∙ wish_on k.number newer (past k.seen) silent

  pub wanted_there : wanted_at k.number h ≡ wanted k
  wanted_there = ap (wanted_at k.number) longer ∙ wanted_same k.number newer (past k.seen) silent

  pub holds_there : (l : ℕ) → holds_at k.number l h ≡ holds l k
  holds_there l = ap (holds_at k.number l) longer ∙ holds_same k.number l newer (past k.seen) silent

  pub owed_there : owed_at k.number h ≡ owed k
  owed_there = ap (owed_at k.number) longer ∙ owed_same k.number newer (past k.seen) silent

  pub none_there : (l : ℕ) → holds l k ≡ false → count k.number l h ≡ 0
  none_there l free = none_counted (count k.number l h) (holds_there l ∙ free)

  pub unheld_there : (l : ℕ) → holds l k ≡ false → hold k.number l h ≡ None
  unheld_there l free = none_held c.threads c.locks k.number l h fit range (none_there l free)

  -- one that was woken still is
  pub fallen_there : (l : Lid) (s : List Frame) → IsWokenOn o l s k → standing c.threads c.locks k.number h ≡ None
  fallen_there l s w = by (waiting c t l s (past k.seen) (mode_of k) w.wants)
    where
      by : ((birth : ℕ) × (mode_of k ≡ Allowed l birth)) ⊎ ((place : ℕ) × (mode_of k ≡ Yielding l place)) → standing c.threads c.locks k.number h ≡ None
      by (inl y) = absurd (false≢true (sym w.yields ∙ ap is_allowed y.1))
      by (inr y) =
          let before : IsWoken c.threads c.locks k.number (past k.seen) = record { lock = l; place = y.0; yields = y.1; fallen = w.fallen } in
          let others = none_between o t (past k.mine) h (past k.seen) newer low a.led caller.led longer in
          let there = awake_on c sound.few t newer (past k.seen) (subst (Legal c) longer legal) others before in
          ap (standing c.threads c.locks k.number) longer ∙ there.fallen

  -- what is known once a call is answered with an entry, and without one
  abbrev with_entry : Entry → Known
  with_entry e = told k a.found (Some e)

  abbrev without : Known
  without = told k a.found None

  told_with : (e : Entry) → (answer c k.number cmd h).entry ≡ Some e → k' ≡ with_entry e
  told_with e q = a.after ∙ ap (told k a.found) q

  told_without : (answer c k.number cmd h).entry ≡ None → k' ≡ without
  told_without q = a.after ∙ ap (told k a.found) q

  replied : (x : Answer) → answer c k.number cmd h ≡ x → r ≡ x.reply
  replied x q = a.reply_is ∙ ap (λ (y : Answer). y.reply) q

  past_is : (e : Entry) → past (with_entry e).seen ≡ e ∷ h
  past_is e = past_more a.found e

  -- an entry that changes no count
  same_by : (e : Entry) → ((m : ℕ) → count k.number m (e ∷ h) ≡ count k.number m h) → HoldsSame k (with_entry e)
  same_by e each = record {
    number = refl;
    each = λ m. ap (holds_at k.number m) (past_is e) ∙ ap (nat_lt 0) (each m) ∙ holds_there m;
    count = ap (owed_at k.number) (past_is e) ∙ held_same all_locks (λ l. holds_at k.number l h) (λ l. holds_at k.number l (e ∷ h)) (λ l lt. ap (nat_lt 0) (each l)) ∙ owed_there;
  }

  -- one by which it takes a lock
  taken_by : (e : Entry) (l : ℕ) → l < 256 → holds l k ≡ false → Changes k.number l 1 h (e ∷ h) → mode k.number (e ∷ h) ≡ Running → HasTaken l k (with_entry e)
  taken_by e l few free ch run = record {
    number = refl;
    held = ap (holds_at k.number l) (past_is e) ∙ now_held k.number l h (e ∷ h) ch;
    others = λ m q. ap (holds_at k.number m) (past_is e) ∙ others_held k.number l 1 h (e ∷ h) ch m q ∙ holds_there m;
    count = ap (owed_at k.number) (past_is e) ∙ owes_more k.number l h (e ∷ h) few (none_there l free) ch ∙ ap (λ n. n + 1) owed_there;
    runs = ap (mode k.number) (past_is e) ∙ run;
  }

  -- and one by which it gives a lock back
  freed_by : (e : Entry) (l : ℕ) → l < 256 → count k.number l h ≡ 1 → Changes k.number l 0 h (e ∷ h) → mode k.number (e ∷ h) ≡ Running → HasFreed l k (with_entry e)
  freed_by e l few once ch run = record {
    number = refl;
    free = ap (holds_at k.number l) (past_is e) ∙ now_free k.number l h (e ∷ h) ch;
    others = λ m q. ap (holds_at k.number m) (past_is e) ∙ others_held k.number l 0 h (e ∷ h) ch m q ∙ holds_there m;
    count = ap (λ n. n + 1) (ap (owed_at k.number) (past_is e)) ∙ sym (owes_less k.number l h (e ∷ h) few once ch) ∙ owed_there;
    runs = ap (mode k.number) (past_is e) ∙ run;
  }

  -- without an entry it stands as it did
  stands_without : Stands k without
  stands_without = record {
    same = record { number = refl; each = holds_there; count = owed_there };
    wants = wanted_there;
    allowed = ap is_allowed mode_there;
    mine = refl;
    left = refl;
  }

  kept_without : KeepsHoldings without b
  kept_without = record { are = are; room = kept.room }

  -- with an entry it keeps other holdings
  kept_with : (e : Entry) (b' : Holdings) → AreHoldings k.number (e ∷ h) b' → b'.owed + kept_for b'.wants ≤ k.left - 1 → KeepsHoldings (with_entry e) b'
  kept_with e b' are' room = record { are = subst (λ (x : List Entry). AreHoldings k.number x b') (sym (past_is e)) are'; room = room }

-- the room of a caller, by what it owes
owed_is : (k : Known) (b : Holdings) → KeepsHoldings k b → b.owed ≡ owed k
owed_is k b kept = kept.are.owed_is

waits_flag : (k : Known) (b : Holdings) (l : Lid) (s : List Frame) → KeepsHoldings k b → wanted k ≡ Some (l, s) → b.wants ≡ true
waits_flag k b l s kept q = by b.wants refl
  where
    by : (w : Bool) → b.wants ≡ w → b.wants ≡ true
    by true e = e
    by false e = absurd (let z : Some (l, s) ≡ None = sym q ∙ kept.are.wanted_is ∙ ap (λ x. wanted_by x b.lock b.stack) e in cc)

runs_flag : (k : Known) (b : Holdings) → KeepsHoldings k b → mode_of k ≡ Running → b.wants ≡ false
runs_flag k b kept q = by b.wants refl
  where
    by : (w : Bool) → b.wants ≡ w → b.wants ≡ false
    by false e = e
    by true e = absurd (false≢true (sym (ap not e) ∙ sym kept.are.running ∙ ap is_running q))

-- one that waits may make two entries more than it owes
pub waiting_room : (k : Known) (b : Holdings) (l : Lid) (s : List Frame) → KeepsHoldings k b → wanted k ≡ Some (l, s) → b.owed + 2 ≤ k.left
waiting_room k b l s kept q = subst (λ w. b.owed + kept_for w ≤ k.left) (waits_flag k b l s kept q) kept.room

-- one that runs has the flag down
pub flag_down : (k : Known) (b : Holdings) → KeepsHoldings k b → mode_of k ≡ Running → b.wants ≡ false
flag_down k b kept q = runs_flag k b kept q

-- what a caller knows once a thread's command was answered
pub asks_on : (o : Opening) (sound : IsSound o) (k k' : Known) (cmd : Command) (r : Reply) → (k.number < o.constants.threads → MayGive o.constants k.number cmd) → IsCaller o k → IsAsked o k k' cmd r → IsCaller o k'
asks_on o sound k k' cmd r may caller a = caller_on o k k' cmd r (may (subst (λ n. k.number < n) sound.callers_are caller.low)) caller a

pub low_number : (o : Opening) → IsSound o → (k : Known) → IsCaller o k → k.number < o.constants.threads
low_number o sound k caller = subst (λ n. k.number < n) sound.callers_are caller.low

-- a lock of a sound gate is one of 256
pub low_few : (o : Opening) → IsSound o → (l : ℕ) → l < o.constants.locks → l < 256
low_few o sound l low = (let x = sound.few_locks in omega (arith, x, low))

-- a Request
module _ (o : Opening) (sound : IsSound o) (k : Known) (b : Holdings) (kept : KeepsHoldings k b) (caller : IsCaller o k) (l : Lid) (s : List Frame) (r : Reply) (k' : Known) (a : IsAsked o k k' (Request l s) r) (free : holds l.0 k ≡ false) (may : MayRequest o l s k) (room : HasRoom 3 k) where
  abbrev rt : Tid
  rt = thread_of k

  abbrev rh : List Entry
  rh = past a.found

  abbrev rc : Constants
  rc = o.constants

  ready : (may_ask l s (mode k.number rh) (latest_wish k.number rh) ≡ true) × (standing rc.threads rc.locks k.number rh ≡ None)
  ready = by may
    where
      by : MayRequest o l s k → (may_ask l s (mode k.number rh) (latest_wish k.number rh) ≡ true) × (standing rc.threads rc.locks k.number rh ≡ None)
      by (runs e) =
          let m : mode k.number rh ≡ Running = mode_there o sound k b kept caller (Request l s) r k' a ∙ e in (
            ap (λ (x : Mode). may_ask l s x (latest_wish k.number rh)) m,
            ap (λ (x : Mode). standing_in (edges rc.threads rc.locks rh) x (latest_wish k.number rh)) m,
          )
      by (woken w) = (may_again w (waiting rc rt l s rh (mode k.number rh) (wanted_there o sound k b kept caller (Request l s) r k' a ∙ w.wants)), fallen_there o sound k b kept caller (Request l s) r k' a l s w)
        where
          may_again : IsWokenOn o l s k → ((birth : ℕ) × (mode k.number rh ≡ Allowed l birth)) ⊎ ((place : ℕ) × (mode k.number rh ≡ Yielding l place)) → may_ask l s (mode k.number rh) (latest_wish k.number rh) ≡ true
          may_again w (inl y) = absurd (false≢true (sym w.yields ∙ ap is_allowed (sym (mode_there o sound k b kept caller (Request l s) r k' a) ∙ y.1)))
          may_again w (inr y) =
              let n = rc.threads in
              let there = wish_of n rc.locks rh (fit o sound k b kept caller (Request l s) r k' a) (range o sound k b kept caller (Request l s) r k' a) k.number (low o sound k b kept caller (Request l s) r k' a) l y.0 y.1 in
              let wanted_now : wanted_at k.number rh ≡ Some (l, there.stack) = ap (wanted_in k.number rh) y.1 ∙ ap (λ x. Some (l, stack_wished x)) there.wish_is in
              let stack : there.stack ≡ s = ap (λ (x : Lid × List Frame). x.1) (same_Some (l, there.stack) (l, s) (sym wanted_now ∙ wanted_there o sound k b kept caller (Request l s) r k' a ∙ w.wants)) in
              ap (λ (x : Mode). may_ask l s x (latest_wish k.number rh)) y.1
              ∙ ap (λ (x : Option Wish). eqb l.0 l.0 && has_stack s x) there.wish_is
              ∙ and_from (eqb l.0 l.0) (pointwise frame_eq there.stack s) (eq-eqb l.0 l.0 refl) ((slice_eq-Decides Decides-frame there.stack s (pointwise frame_eq there.stack s) refl).1 stack)

  answer_is : answer rc k.number (Request l s) rh ≡ yield_or_go rt l s (cover rc rt l s rh)
  answer_is = request_is rc rt l s rh ready.0 (unheld_there o sound k b kept caller (Request l s) r k' a l.0 free) ready.1

  abbrev asks_now : Holdings
  asks_now = record b { wants = true; lock = l; stack = s }

  enough : b.owed + 2 ≤ k.left - 1
  enough = let x = owed_is k b kept in let y = room in omega (arith, x, y)

  pub requested : Requested o l s k k' r × KeepsHoldings k' asks_now
  requested = by (cover rc rt l s rh) refl
    where
      by : (x : Option Named) → cover rc rt l s rh ≡ x → Requested o l s k k' r × KeepsHoldings k' asks_now
      by None q =
          let e : Entry = entry.Go rt l s in
          let is : answer rc k.number (Request l s) rh ≡ with reply.Go e = answer_is ∙ ap (yield_or_go rt l s) q in
          let now : k' ≡ told k a.found (Some e) = told_with o sound k b kept caller (Request l s) r k' a e (ap (λ (x : Answer). x.entry) is) in
          let rep : r ≡ reply.Go = replied o sound k b kept caller (Request l s) r k' a (with reply.Go e) is in
          let seen : past (a.found ++ e ∷ []) ≡ e ∷ rh = past_more a.found e in (
            subst (λ (x : Known). Requested o l s k x r) (sym now) record {
              asked = subst (λ (x : Known). IsAsked o k x (Request l s) r) now a;
              same = same_by o sound k b kept caller (Request l s) r k' a e (λ m. refl);
              wants = ap (wanted_at k.number) seen ∙ go_wants rt l s rh;
              left = (let y = room in omega (arith, y));
              entered = subst (Requests rt l s k (told k a.found (Some e))) (sym rep) (refl, ap (λ (x : List Entry). is_allowed (mode k.number x)) seen ∙ go_allowed rt l s rh);
            },
            subst (λ (x : Known). KeepsHoldings x asks_now) (sym now) (kept_with o sound k b kept caller (Request l s) r k' a e asks_now (after_go rt l s rh b (are o sound k b kept caller (Request l s) r k' a)) enough),
          )
      by (Some n) q =
          let e : Entry = entry.Yield rt l s n.sig n.births in
          let is : answer rc k.number (Request l s) rh ≡ with (reply.Yield n) e = answer_is ∙ ap (yield_or_go rt l s) q in
          let now : k' ≡ told k a.found (Some e) = told_with o sound k b kept caller (Request l s) r k' a e (ap (λ (x : Answer). x.entry) is) in
          let rep : r ≡ reply.Yield n = replied o sound k b kept caller (Request l s) r k' a (with (reply.Yield n) e) is in
          let seen : past (a.found ++ e ∷ []) ≡ e ∷ rh = past_more a.found e in (
            subst (λ (x : Known). Requested o l s k x r) (sym now) record {
              asked = subst (λ (x : Known). IsAsked o k x (Request l s) r) now a;
              same = same_by o sound k b kept caller (Request l s) r k' a e (λ m. refl);
              wants = ap (wanted_at k.number) seen ∙ yield_wants rt l s n.sig n.births rh;
              left = (let y = room in omega (arith, y));
              entered = subst (Requests rt l s k (told k a.found (Some e))) (sym rep) refl;
            },
            subst (λ (x : Known). KeepsHoldings x asks_now) (sym now) (kept_with o sound k b kept caller (Request l s) r k' a e asks_now (after_yield rt l s n.sig n.births rh b (are o sound k b kept caller (Request l s) r k' a)) enough),
          )

-- an Acquire
module _ (o : Opening) (sound : IsSound o) (k : Known) (b : Holdings) (kept : KeepsHoldings k b) (caller : IsCaller o k) (l : Lid) (r : Reply) (k' : Known) (a : IsAsked o k k' (Acquire l) r) (few : l.0 < 256) (free : holds l.0 k ≡ false) (s : List Frame) (wants : wanted k ≡ Some (l, s)) where
  abbrev at : Tid
  at = thread_of k

  abbrev ah : List Entry
  ah = past a.found

  abbrev ac : Constants
  ac = o.constants

  mode_now : mode k.number ah ≡ mode_of k
  mode_now = mode_there o sound k b kept caller (Acquire l) r k' a

  stands_now : Stands k (told k a.found None)
  stands_now = stands_without o sound k b kept caller (Acquire l) r k' a

  abbrev got_now : Holdings
  got_now = record b { held = set b.held l.0 true; owed = b.owed + 1; wants = false }

  -- it keeps its holdings, or has one more where it got the lock
  abbrev KeptBy : Reply → Known → Type 0
  KeptBy x y = ((x ≡ reply.Got) × KeepsHoldings y got_now) ⊎ ((x ≡ reply.Got → ⊥) × KeepsHoldings y b)

  without_entry : (x : Reply) → answer ac k.number (Acquire l) ah ≡ only x → Acquires o l k (told k a.found None) x → (x ≡ reply.Got → ⊥) → Acquired o l k k' r × KeptBy r k'
  without_entry x is leaves not_got =
      let now : k' ≡ told k a.found None = told_without o sound k b kept caller (Acquire l) r k' a (ap (λ (y : Answer). y.entry) is) in
      let rep : r ≡ x = replied o sound k b kept caller (Acquire l) r k' a (only x) is in (
        record { asked = a; leaves = subst (λ (y : Known). Acquires o l k y r) (sym now) (subst (Acquires o l k (told k a.found None)) (sym rep) leaves) },
        inr (λ q. not_got (sym rep ∙ q), subst (λ (y : Known). KeepsHoldings y b) (sym now) (kept_without o sound k b kept caller (Acquire l) r k' a)),
      )

  pub acquired : Acquired o l k k' r × KeptBy r k'
  acquired = by (waiting ac at l s ah (mode k.number ah) (wanted_there o sound k b kept caller (Acquire l) r k' a ∙ wants))
    where
      by_holder : (birth : ℕ) → mode k.number ah ≡ Allowed l birth → (x : Option Edge) → holder ac.threads l.0 ah ≡ x → Acquired o l k k' r × KeptBy r k'
      by_holder birth m (Some x) q = without_entry (reply.Busy x.t) (allowed_is ac at l s ah birth m ∙ ap (busy_or_got at l) q) (stands_now, record { birth = birth; edge = x; allowed = m; held = q; owner = refl }) (λ z. cc)
      by_holder birth m None q =
          let e : Entry = entry.Got at l in
          let is : answer ac k.number (Acquire l) ah ≡ with reply.Got e = allowed_is ac at l s ah birth m ∙ ap (busy_or_got at l) q in
          let now : k' ≡ told k a.found (Some e) = told_with o sound k b kept caller (Acquire l) r k' a e (ap (λ (y : Answer). y.entry) is) in
          let rep : r ≡ reply.Got = replied o sound k b kept caller (Acquire l) r k' a (with reply.Got e) is in
          let run : mode k.number (e ∷ ah) ≡ Running = mode-word k.number e ah (same k.number) in
          let ch : Changes k.number l.0 1 ah (e ∷ ah) = got_changes at l ah in
          let none : count k.number l.0 ah ≡ 0 = none_there o sound k b kept caller (Acquire l) r k' a l.0 free in (
            record {
              asked = a;
              leaves = subst (λ (y : Known). Acquires o l k y r) (sym now) (subst (Acquires o l k (told k a.found (Some e))) (sym rep) (taken_by o sound k b kept caller (Acquire l) r k' a e l.0 few free ch run, refl));
            },
            inl (
              rep,
              subst (λ (y : Known). KeepsHoldings y got_now) (sym now) (kept_with o sound k b kept caller (Acquire l) r k' a e got_now
                  (after_taking k.number l.0 ah (e ∷ ah) b few none ch run (are o sound k b kept caller (Acquire l) r k' a))
                  (let y = waiting_room k b l s kept wants in omega (arith, y))),
            ),
          )

      by_cause : (place : ℕ) → mode k.number ah ≡ Yielding l place → (x : Option ℕ) → standing ac.threads ac.locks k.number ah ≡ x → Acquired o l k k' r × KeptBy r k'
      by_cause place m (Some x) q = without_entry (reply.Still x) (yielding_is ac at l s ah place m ∙ ap (λ (y : Option ℕ). still_or y (only reply.Woken)) q) (stands_now, record { place = place; yields = m; stands = q }) (λ z. cc)
      by_cause place m None q = without_entry reply.Woken (yielding_is ac at l s ah place m ∙ ap (λ (y : Option ℕ). still_or y (only reply.Woken)) q) (stands_now, (ap is_allowed m, q)) (λ z. cc)

      by : ((birth : ℕ) × (mode k.number ah ≡ Allowed l birth)) ⊎ ((place : ℕ) × (mode k.number ah ≡ Yielding l place)) → Acquired o l k k' r × KeptBy r k'
      by (inl y) = by_holder y.0 y.1 (holder ac.threads l.0 ah) refl
      by (inr y) = by_cause y.0 y.1 (standing ac.threads ac.locks k.number ah) refl

-- what a Try leaves of one with these holdings, by the reply
abbrev taken_now : Holdings → Lid → Holdings
taken_now b l = record b { held = set b.held l.0 true; owed = b.owed + 1 }

abbrev Misses : Known → Holdings → Lid → List Frame → MissWhy → Known → Type 0
Misses k b l s w y = (HoldsSame k y × (mode_of y ≡ Running)) × ((y.mine ≡ k.mine ++ entry.Miss (thread_of k) l s w ∷ []) × KeepsHoldings y b)

abbrev pub TriedBy : Known → Holdings → Lid → List Frame → Known → Reply → Type 0
TriedBy k b l s y reply.Took = HasTaken l.0 k y × ((y.mine ≡ k.mine ++ entry.Took (thread_of k) l s ∷ []) × KeepsHoldings y (taken_now b l))
TriedBy k b l s y (reply.MissBusy h) = Misses k b l s (why.Busy h) y
TriedBy k b l s y (reply.MissAvoid n) = Misses k b l s (why.Avoid n) y
TriedBy k b l s y _ = ⊥

-- no other reply comes
pub tried_so : (k : Known) (b : Holdings) (l : Lid) (s : List Frame) (y : Known) (r : Reply) → TriedBy k b l s y r → (r ≡ reply.Took → ⊥) → ((h : Tid) → r ≡ reply.MissBusy h → ⊥) → ((n : Named) → r ≡ reply.MissAvoid n → ⊥) → ⊥
tried_so k b l s y reply.Took t a f g = a refl
tried_so k b l s y (reply.MissBusy h) t a f g = f h refl
tried_so k b l s y (reply.MissAvoid n) t a f g = g n refl
tried_so k b l s y reply.Go t a f g = t
tried_so k b l s y (reply.Yield n) t a f g = t
tried_so k b l s y reply.Got t a f g = t
tried_so k b l s y (reply.Busy h) t a f g = t
tried_so k b l s y (reply.Still c) t a f g = t
tried_so k b l s y reply.Woken t a f g = t
tried_so k b l s y reply.Freed t a f g = t
tried_so k b l s y reply.Ended t a f g = t
tried_so k b l s y (reply.Broken u) t a f g = t
tried_so k b l s y (reply.Learnt i) t a f g = t
tried_so k b l s y (reply.Refused x) t a f g = t

-- a Try
module _ (o : Opening) (sound : IsSound o) (k : Known) (b : Holdings) (kept : KeepsHoldings k b) (caller : IsCaller o k) (l : Lid) (s : List Frame) (r : Reply) (k' : Known) (a : IsAsked o k k' (Try l s) r) (few : l.0 < 256) (free : holds l.0 k ≡ false) (runs_now : mode_of k ≡ Running) (room : HasRoom 2 k) where
  abbrev tt' : Tid
  tt' = thread_of k

  abbrev th : List Entry
  th = past a.found

  abbrev tc : Constants
  tc = o.constants

  abbrev took_now : Holdings
  took_now = taken_now b l

  down : b.wants ≡ false
  down = flag_down k b kept runs_now

  fewer : b.owed + kept_for b.wants ≤ k.left - 1
  fewer = let x = owed_is k b kept in let y = room in let z : kept_for b.wants ≡ 0 = ap kept_for down in omega (arith, x, y, z)

  try_answer : answer tc k.number (Try l s) th ≡ miss_or tt' l s (holder tc.threads l.0 th) (avoid_or_took tt' l s (cover tc tt' l s th))
  try_answer = try_is tc tt' l s th (mode_there o sound k b kept caller (Try l s) r k' a ∙ runs_now) (unheld_there o sound k b kept caller (Try l s) r k' a l.0 free)

  missed : (x : Reply) (w : MissWhy) → answer tc k.number (Try l s) th ≡ with x (entry.Miss tt' l s w)
      → ((y : Known) → Misses k b l s w y → TriedBy k b l s y x) → TriedBy k b l s k' r
  missed x w is leaves =
      let e : Entry = entry.Miss tt' l s w in
      let now : k' ≡ told k a.found (Some e) = told_with o sound k b kept caller (Try l s) r k' a e (ap (λ (y : Answer). y.entry) is) in
      let rep : r ≡ x = replied o sound k b kept caller (Try l s) r k' a (with x e) is in
      let run : mode k.number (e ∷ th) ≡ Running = mode-word k.number e th (same k.number) in
      subst (λ (y : Known). TriedBy k b l s y r) (sym now) (subst (TriedBy k b l s (told k a.found (Some e))) (sym rep) (leaves (told k a.found (Some e)) (
        (same_by o sound k b kept caller (Try l s) r k' a e (λ m. refl), ap (mode k.number) (past_more a.found e) ∙ run),
        (
          refl,
          kept_with o sound k b kept caller (Try l s) r k' a e b (after_miss tt' l s w th b down (are o sound k b kept caller (Try l s) r k' a)) fewer,
        ),
      )))

  pub tried : TriedBy k b l s k' r
  tried = by_holder (holder tc.threads l.0 th) refl
    where
      by_cover : holder tc.threads l.0 th ≡ None → (x : Option Named) → cover tc tt' l s th ≡ x → TriedBy k b l s k' r
      by_cover none (Some n) q = missed (reply.MissAvoid n) (why.Avoid n) (try_answer ∙ ap (λ (y : Option Edge). miss_or tt' l s y (avoid_or_took tt' l s (cover tc tt' l s th))) none ∙ ap (avoid_or_took tt' l s) q) (λ y z. z)
      by_cover none None q =
          let e : Entry = entry.Took tt' l s in
          let is : answer tc k.number (Try l s) th ≡ with reply.Took e = try_answer ∙ ap (λ (y : Option Edge). miss_or tt' l s y (avoid_or_took tt' l s (cover tc tt' l s th))) none ∙ ap (avoid_or_took tt' l s) q in
          let now : k' ≡ told k a.found (Some e) = told_with o sound k b kept caller (Try l s) r k' a e (ap (λ (y : Answer). y.entry) is) in
          let rep : r ≡ reply.Took = replied o sound k b kept caller (Try l s) r k' a (with reply.Took e) is in
          let run : mode k.number (e ∷ th) ≡ Running = mode-word k.number e th (same k.number) in
          let zero_there : count k.number l.0 th ≡ 0 = none_there o sound k b kept caller (Try l s) r k' a l.0 free in
          let ch : Changes k.number l.0 1 th (e ∷ th) = took_changes tt' l s th zero_there in
          let now_are : AreHoldings k.number (e ∷ th) took_now = subst (λ w. AreHoldings k.number (e ∷ th) (record b { held = set b.held l.0 true; owed = b.owed + 1; wants = w })) (sym down) (after_taking k.number l.0 th (e ∷ th) b few zero_there ch run (are o sound k b kept caller (Try l s) r k' a)) in
          subst (λ (y : Known). TriedBy k b l s y r) (sym now) (subst (TriedBy k b l s (told k a.found (Some e))) (sym rep) (
            taken_by o sound k b kept caller (Try l s) r k' a e l.0 few free ch run,
            (
              refl,
              kept_with o sound k b kept caller (Try l s) r k' a e took_now now_are (let x = owed_is k b kept in let y = room in let z : kept_for b.wants ≡ 0 = ap kept_for down in omega (arith, x, y, z)),
            ),
          ))

      by_holder : (x : Option Edge) → holder tc.threads l.0 th ≡ x → TriedBy k b l s k' r
      by_holder (Some x) q = missed (reply.MissBusy x.t) (why.Busy x.t) (try_answer ∙ ap (λ (y : Option Edge). miss_or tt' l s y (avoid_or_took tt' l s (cover tc tt' l s th))) q) (λ y z. z)
      by_holder None q = by_cover q (cover tc tt' l s th) refl

-- a lock that a caller holds is one of the gate's, and it holds it once
module _ (o : Opening) (sound : IsSound o) (k : Known) (b : Holdings) (kept : KeepsHoldings k b) (caller : IsCaller o k) (l : ℕ) (held : holds l k ≡ true) where
  legal_seen : Legal o.constants (past k.seen)
  legal_seen = led_legal o k.number (past k.mine) (past k.seen) sound.legal caller.led

  pub held_low : l < o.constants.locks
  held_low =
      let f = fits o.constants (past k.seen) legal_seen in
      let i = in_range o.constants (past k.seen) legal_seen in
      let e = held_edge o.constants.threads o.constants.locks k.number l (past k.seen) f i (let z = ltb-true 0 (count k.number l (past k.seen)) held in omega (arith, z)) in
      (hold_below o.constants.threads o.constants.locks k.number l (past k.seen) e.0 i e.1).1

  pub held_few : l < 256
  held_few = let x = held_low in let y = sound.few_locks in omega (arith, x, y)

  pub held_once : count k.number l (past k.seen) ≡ 1
  held_once = by (get_or b.held l false) refl
    where
      by : (f : Bool) → get_or b.held l false ≡ f → count k.number l (past k.seen) ≡ 1
      by true q = kept.are.counts l ∙ ap (λ (x : Bool). if x then 1 else 0) q
      by false q = absurd (let z = kept.are.counts l ∙ ap (λ (x : Bool). if x then 1 else 0) q in let y = ltb-true 0 (count k.number l (past k.seen)) held in omega (arith, z, y))

  -- so it owes an entry at least
  pub owes_one : 1 ≤ owed k
  owes_one = held_some all_locks l (λ i. holds_at k.number i (past k.seen)) (low_lock l held_few) held

-- so it may make an entry
pub owned_one : (o : Opening) (sound : IsSound o) (k : Known) (b : Holdings) (kept : KeepsHoldings k b) (caller : IsCaller o k) (l : ℕ) (held : holds l k ≡ true) → 1 ≤ b.owed
owned_one o sound k b kept caller l held = (let x = owes_one o sound k b kept caller l held in let y = owed_is k b kept in omega (arith, x, y))

pub freeing_room : (o : Opening) (sound : IsSound o) (k : Known) (b : Holdings) (kept : KeepsHoldings k b) (caller : IsCaller o k) (l : ℕ) (held : holds l k ≡ true) → 1 ≤ k.left
freeing_room o sound k b kept caller l held = (let x = owned_one o sound k b kept caller l held in let y = kept.room in omega (arith, x, y))

-- a Release
module _ (o : Opening) (sound : IsSound o) (k : Known) (b : Holdings) (kept : KeepsHoldings k b) (caller : IsCaller o k) (l : Lid) (r : Reply) (k' : Known) (a : IsAsked o k k' (Release l) r) (held : holds l.0 k ≡ true) (runs_now : mode_of k ≡ Running) where
  abbrev ft : Tid
  ft = thread_of k

  abbrev fh : List Entry
  fh = past a.found

  abbrev fc : Constants
  fc = o.constants

  abbrev freed_now : Holdings
  freed_now = record b { held = set b.held l.0 false; owed = b.owed - 1 }

  fewest : l.0 < 256
  fewest = held_few o sound k b kept caller l.0 held

  once_there : count k.number l.0 fh ≡ 1
  once_there = ap (count k.number l.0) (longer o sound k b kept caller (Release l) r k' a) ∙ count_on k.number l.0 a.goes_on.0 (past k.seen) (silent o sound k b kept caller (Release l) r k' a) ∙ held_once o sound k b kept caller l.0 held

  pub released : Released o l k k' × KeepsHoldings k' freed_now
  released =
      let f = fit o sound k b kept caller (Release l) r k' a in
      let i = range o sound k b kept caller (Release l) r k' a in
      let x = held_edge fc.threads fc.locks k.number l.0 fh f i (let z = once_there in omega (arith, z)) in
      let there = holder_of fc.threads fc.locks fh f i k.number l.0 (low o sound k b kept caller (Release l) r k' a) (held_low o sound k b kept caller l.0 held) x.0 x.1 in
      let e : Entry = entry.Free ft l in
      let is : answer fc k.number (Release l) fh ≡ with reply.Freed e = release_is fc ft l [] fh x.0 (mode_there o sound k b kept caller (Release l) r k' a ∙ runs_now) there.0 there.1 in
      let now : k' ≡ told k a.found (Some e) = told_with o sound k b kept caller (Release l) r k' a e (ap (λ (y : Answer). y.entry) is) in
      let rep : r ≡ reply.Freed = replied o sound k b kept caller (Release l) r k' a (with reply.Freed e) is in
      let run : mode k.number (e ∷ fh) ≡ Running = mode-word k.number e fh (same k.number) in
      let ch : Changes k.number l.0 0 fh (e ∷ fh) = free_changes ft l fh once_there in
      let down : b.wants ≡ false = flag_down k b kept runs_now in (
        record {
          asked = subst (IsAsked o k k' (Release l)) rep a;
          freed = subst (HasFreed l.0 k) (sym now) (freed_by o sound k b kept caller (Release l) r k' a e l.0 fewest once_there ch run);
          added = ap (λ (y : Known). y.mine) now;
        },
        subst (λ (y : Known). KeepsHoldings y freed_now) (sym now) (kept_with o sound k b kept caller (Release l) r k' a e freed_now
            (after_freeing k.number l.0 fh (e ∷ fh) b fewest once_there ch run down (are o sound k b kept caller (Release l) r k' a))
            (let y = kept.room in let z : kept_for b.wants ≡ 0 = ap kept_for down in let w = owes_one o sound k b kept caller l.0 held in let v = owed_is k b kept in omega (arith, y, z, w, v))),
      )
