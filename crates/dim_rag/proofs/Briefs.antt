-- A journal that grows: what it has stays, and the new entry is there.
use Rattle.std.proofs.Common.{◌≡◌, ℕ, suc, ◌+◌, ◌-◌, ◌<◌, ◌≤◌, refl, ap, ap₂, sym, ◌∙◌, arith, List, [], ◌∷◌, ◌++◌, length, take, drop, get_or}
use Rattle.std.specs.Prelude.{All}
use Rattle.std.proofs.lemmas.List.Elements.{All-push}
use Rattle.std.proofs.lemmas.List.{append-nil, map-append, length-drop, length-append, take-append-le, drop-append-le, drop_at, take_all, get_or_append_left, get_or_push, length_push}
use Rattle.dim_stack.specs.declared.Frame.{Frame}
use Rattle.dim_rag.specs.declared.entry.Entry.{Entry}
use Rattle.dim_rag.specs.declared.entry.Entry.TheVariants.{Go, Yield, Got, Free, Took, Miss, End, Break, Learn}
use Rattle.dim_rag.specs.declared.entry.MissWhy.TheVariants.{Busy, Avoid}
use Rattle.dim_rag.specs.declared.journal.brief.Cause.{Cause}
use Rattle.dim_rag.specs.declared.journal.brief.Brief.{Brief}
use Rattle.dim_rag.specs.declared.journal.brief.Brief.TheVariants as brief
use Rattle.dim_rag.specs.Fits.{IsInRange}
use Rattle.dim_rag.specs.Journal.{frames_at, cause_at, wide_at, thread, lock, entry_in_full, entries_of, stack_of, causes_of, brief_of, AreIn, HasFrames, HasCause, HasWide, IsJournal}

pub none_more : {X : Type 0} (xs : List X) → xs ≡ xs ++ []
none_more xs = sym (append-nil xs)

-- the frames of a stack stay
frames_stay : (fs xs : List Frame) (start len : ℕ) → AreIn (length fs) start len → frames_at (fs ++ xs) start len ≡ frames_at fs start len
frames_stay fs xs start len k =
    let n : length (drop start fs) ≡ length fs - start = length-drop start fs in
    ap (take len) (drop-append-le start fs xs (omega (arith, k.1.1)))
    ∙ take-append-le len (drop start fs) xs (omega (arith, n, k.1.1))

-- a cause stays
cause_stays : (cs ys : List Cause) (c : ℕ) → c < length cs → cause_at (cs ++ ys) c ≡ cause_at cs c
cause_stays cs ys c lt = get_or_append_left cs ys (record { sig = 0; births = [] }) c lt

-- an entry in full stays
wide_stays : (ws zs : List Entry) (w : ℕ) → w < length ws → wide_at (ws ++ zs) w ≡ wide_at ws w
wide_stays ws zs w lt = get_or_append_left ws zs (Learn []) w lt

module _ (fs xs : List Frame) (cs ys : List Cause) (ws : List Entry) where
  -- an entry stays where frames and causes are put behind
  entry_stays : (b : Brief) → HasFrames (length fs) b → HasCause (length cs) b → entry_in_full (fs ++ xs) (cs ++ ys) ws b ≡ entry_in_full fs cs ws b
  entry_stays (brief.Went len t l start) k h = ap (λ s. Go (thread t) (lock l) s) (frames_stay fs xs start len k)
  entry_stays (brief.Yielded len t l start c) k h = ap₂ (λ s (x : Cause). Yield (thread t) (lock l) s x.sig x.births) (frames_stay fs xs start len k) (cause_stays cs ys c h)
  entry_stays (brief.Obtained t l) k h = refl
  entry_stays (brief.Freed t l) k h = refl
  entry_stays (brief.Took len t l start) k h = ap (λ s. Took (thread t) (lock l) s) (frames_stay fs xs start len k)
  entry_stays (brief.MissedBusy len t l start holder) k h = ap (λ s. Miss (thread t) (lock l) s (Busy holder)) (frames_stay fs xs start len k)
  entry_stays (brief.MissedAvoid len t l start c) k h = ap₂ (λ s (x : Cause). Miss (thread t) (lock l) s (Avoid record { sig = x.sig; births = x.births })) (frames_stay fs xs start len k) (cause_stays cs ys c h)
  entry_stays (brief.Ended t why) k h = refl
  entry_stays (brief.Broken t set) k h = refl
  entry_stays (brief.Learnt c) k h = ap (λ (x : Cause). Learn x.births) (cause_stays cs ys c h)
  entry_stays (brief.Wide w) k h = refl

  -- all entries stay
  entries_stay : (briefs : List Brief) → All (HasFrames (length fs)) briefs → All (HasCause (length cs)) briefs → entries_of (fs ++ xs) (cs ++ ys) ws briefs ≡ entries_of fs cs ws briefs
  entries_stay [] k h = refl
  entries_stay (b ∷ briefs) k h = ap₂ (λ e es. e ∷ es) (entry_stays b (k 0 b (omega arith)) (h 0 b (omega arith))) (entries_stay briefs (λ i d lt. k (suc i) d (omega (arith, lt))) (λ i d lt. h (suc i) d (omega (arith, lt))))

module _ (fs : List Frame) (cs : List Cause) (ws zs : List Entry) where
  -- an entry stays where entries in full are put behind
  entry_stays_wide : (b : Brief) → HasWide (length ws) b → entry_in_full fs cs (ws ++ zs) b ≡ entry_in_full fs cs ws b
  entry_stays_wide (brief.Went len t l start) w = refl
  entry_stays_wide (brief.Yielded len t l start c) w = refl
  entry_stays_wide (brief.Obtained t l) w = refl
  entry_stays_wide (brief.Freed t l) w = refl
  entry_stays_wide (brief.Took len t l start) w = refl
  entry_stays_wide (brief.MissedBusy len t l start holder) w = refl
  entry_stays_wide (brief.MissedAvoid len t l start c) w = refl
  entry_stays_wide (brief.Ended t why) w = refl
  entry_stays_wide (brief.Broken t set) w = refl
  entry_stays_wide (brief.Learnt c) w = refl
  entry_stays_wide (brief.Wide i) w = wide_stays ws zs i w

  -- all entries stay
  entries_stay_wide : (briefs : List Brief) → All (HasWide (length ws)) briefs → entries_of fs cs (ws ++ zs) briefs ≡ entries_of fs cs ws briefs
  entries_stay_wide [] w = refl
  entries_stay_wide (b ∷ briefs) w = ap₂ (λ e es. e ∷ es) (entry_stays_wide b (w 0 b (omega arith))) (entries_stay_wide briefs (λ i d lt. w (suc i) d (omega (arith, lt))))

-- the frames of the newest entry are those put behind
frames_back : (fs s : List Frame) → frames_at (fs ++ s) (length fs) (length s) ≡ s
frames_back fs s = ap (take (length s)) (drop_at fs s (length fs) refl) ∙ take_all (length s) s (omega arith)

-- so is its cause
cause_back : (cs : List Cause) (c : Cause) → cause_at (cs ++ c ∷ []) (length cs) ≡ c
cause_back cs c = get_or_push cs c (record { sig = 0; births = [] }) (length cs) refl

-- the newest entry is there
pub entry_back : (fs : List Frame) (cs : List Cause) (ws : List Entry) (e : Entry) → entry_in_full (fs ++ stack_of e) (cs ++ causes_of e) ws (brief_of (length fs) (length cs) e) ≡ e
entry_back fs cs ws (Go t l s) = ap (λ x. Go t l x) (frames_back fs s)
entry_back fs cs ws (Yield t l s sig b) = ap₂ (λ x (c : Cause). Yield t l x c.sig c.births) (frames_back fs s) (cause_back cs record { sig = sig; births = b })
entry_back fs cs ws (Got t l) = refl
entry_back fs cs ws (Free t l) = refl
entry_back fs cs ws (Took t l s) = ap (λ x. Took t l x) (frames_back fs s)
entry_back fs cs ws (Miss t l s (Busy holder)) = ap (λ x. Miss t l x (Busy holder)) (frames_back fs s)
entry_back fs cs ws (Miss t l s (Avoid named)) = ap₂ (λ x (c : Cause). Miss t l x (Avoid record { sig = c.sig; births = c.births })) (frames_back fs s) (cause_back cs record { sig = named.sig; births = named.births })
entry_back fs cs ws (End t why) = refl
entry_back fs cs ws (Break set t) = refl
entry_back fs cs ws (Learn b) = ap (λ (c : Cause). Learn c.births) (cause_back cs record { sig = 0; births = b })

-- the entries are those before, and the newest one
pub entries_more : (fs : List Frame) (cs : List Cause) (ws : List Entry) (briefs : List Brief) (e : Entry) → All (HasFrames (length fs)) briefs → All (HasCause (length cs)) briefs
    → entries_of (fs ++ stack_of e) (cs ++ causes_of e) ws (briefs ++ brief_of (length fs) (length cs) e ∷ []) ≡ entries_of fs cs ws briefs ++ e ∷ []
entries_more fs cs ws briefs e k h =
    map-append (entry_in_full (fs ++ stack_of e) (cs ++ causes_of e) ws) briefs (brief_of (length fs) (length cs) e ∷ [])
    ∙ ap₂ (λ es x. es ++ x ∷ []) (entries_stay fs (stack_of e) cs (causes_of e) ws briefs k h) (entry_back fs cs ws e)

-- so it is with one that is kept in full
pub entries_more_wide : (fs : List Frame) (cs : List Cause) (ws : List Entry) (briefs : List Brief) (e : Entry) → All (HasWide (length ws)) briefs
    → entries_of fs cs (ws ++ e ∷ []) (briefs ++ brief.Wide (length ws) ∷ []) ≡ entries_of fs cs ws briefs ++ e ∷ []
entries_more_wide fs cs ws briefs e w =
    map-append (entry_in_full fs cs (ws ++ e ∷ [])) briefs (brief.Wide (length ws) ∷ [])
    ∙ ap₂ (λ es x. es ++ x ∷ []) (entries_stay_wide fs cs ws (e ∷ []) briefs w) (get_or_push ws e (Learn []) (length ws) refl)

-- the frames that are named stay there
frames_grow : (n i : ℕ) (b : Brief) → HasFrames n b → HasFrames (n + i) b
frames_grow n i (brief.Went len t l start) k = (k.0, (k.1.0, omega (arith, k.1.1)))
frames_grow n i (brief.Yielded len t l start c) k = (k.0, (k.1.0, omega (arith, k.1.1)))
frames_grow n i (brief.Obtained t l) k = tt
frames_grow n i (brief.Freed t l) k = tt
frames_grow n i (brief.Took len t l start) k = (k.0, (k.1.0, omega (arith, k.1.1)))
frames_grow n i (brief.MissedBusy len t l start holder) k = (k.0, (k.1.0, omega (arith, k.1.1)))
frames_grow n i (brief.MissedAvoid len t l start c) k = (k.0, (k.1.0, omega (arith, k.1.1)))
frames_grow n i (brief.Ended t why) k = tt
frames_grow n i (brief.Broken t set) k = tt
frames_grow n i (brief.Learnt c) k = tt
frames_grow n i (brief.Wide w) k = tt

-- so does the cause
cause_grows : (m j : ℕ) (b : Brief) → HasCause m b → HasCause (m + j) b
cause_grows m j (brief.Went len t l start) k = tt
cause_grows m j (brief.Yielded len t l start c) k = omega (arith, k)
cause_grows m j (brief.Obtained t l) k = tt
cause_grows m j (brief.Freed t l) k = tt
cause_grows m j (brief.Took len t l start) k = tt
cause_grows m j (brief.MissedBusy len t l start holder) k = tt
cause_grows m j (brief.MissedAvoid len t l start c) k = omega (arith, k)
cause_grows m j (brief.Ended t why) k = tt
cause_grows m j (brief.Broken t set) k = tt
cause_grows m j (brief.Learnt c) k = omega (arith, k)
cause_grows m j (brief.Wide w) k = tt

-- an entry needs one cause at most
few_causes : (e : Entry) → length (causes_of e) ≤ 1
few_causes (Go t l s) = omega arith
few_causes (Yield t l s sig b) = omega arith
few_causes (Got t l) = omega arith
few_causes (Free t l) = omega arith
few_causes (Took t l s) = omega arith
few_causes (Miss t l s (Busy holder)) = omega arith
few_causes (Miss t l s (Avoid named)) = omega arith
few_causes (End t why) = omega arith
few_causes (Break set t) = omega arith
few_causes (Learn b) = omega arith

-- the entry in full stays there
wide_grows : (w : ℕ) (b : Brief) → HasWide w b → HasWide (w + 1) b
wide_grows w (brief.Went len t l start) k = tt
wide_grows w (brief.Yielded len t l start c) k = tt
wide_grows w (brief.Obtained t l) k = tt
wide_grows w (brief.Freed t l) k = tt
wide_grows w (brief.Took len t l start) k = tt
wide_grows w (brief.MissedBusy len t l start holder) k = tt
wide_grows w (brief.MissedAvoid len t l start c) k = tt
wide_grows w (brief.Ended t why) k = tt
wide_grows w (brief.Broken t set) k = tt
wide_grows w (brief.Learnt c) k = tt
wide_grows w (brief.Wide i) k = omega (arith, k)

-- an entry in brief whose numbers are below 256 names none in full
pub never_wide : (w n m : ℕ) (e : Entry) → HasWide w (brief_of n m e)
never_wide w n m (Go t l s) = tt
never_wide w n m (Yield t l s sig b) = tt
never_wide w n m (Got t l) = tt
never_wide w n m (Free t l) = tt
never_wide w n m (Took t l s) = tt
never_wide w n m (Miss t l s (Busy holder)) = tt
never_wide w n m (Miss t l s (Avoid named)) = tt
never_wide w n m (End t why) = tt
never_wide w n m (Break set t) = tt
never_wide w n m (Learn b) = tt

-- threads and locks of a gate have numbers below 256
pub narrow : (n m : ℕ) (e : Entry) → n ≤ 32 → m ≤ 256 → IsInRange n m e → IsInRange 256 256 e
narrow n m (Go t l s) few few_locks k = (omega (arith, few, k.0), omega (arith, few_locks, k.1))
narrow n m (Yield t l s sig b) few few_locks k = (omega (arith, few, k.0), omega (arith, few_locks, k.1))
narrow n m (Got t l) few few_locks k = (omega (arith, few, k.0), omega (arith, few_locks, k.1))
narrow n m (Free t l) few few_locks k = (omega (arith, few, k.0), omega (arith, few_locks, k.1))
narrow n m (Took t l s) few few_locks k = (omega (arith, few, k.0), omega (arith, few_locks, k.1))
narrow n m (Miss t l s why) few few_locks k = (omega (arith, few, k.0), omega (arith, few_locks, k.1))
narrow n m (End t why) few few_locks k = omega (arith, few, k)
narrow n m (Break set t) few few_locks k = omega (arith, few, k)
narrow n m (Learn b) few few_locks k = tt

-- a stack and a cause that are put behind keep to the room for one more entry
pub journal_more : (spare briefs_room frames_room causes_room : ℕ) (briefs : List Brief) (frames : List Frame) (causes : List Cause) (wide : List Entry) (e : Entry) (b : Brief) (frames_after causes_after : ℕ)
    → IsJournal spare briefs_room frames_room causes_room briefs frames causes wide → 1 ≤ spare
    → length (stack_of e) ≤ 32 → frames_room ≤ frames_after → causes_room ≤ causes_after
    → HasFrames (length (frames ++ stack_of e)) b → HasCause (length (causes ++ causes_of e)) b → HasWide (length wide) b
    → IsJournal (spare - 1) briefs_room frames_after causes_after (briefs ++ b ∷ []) (frames ++ stack_of e) (causes ++ causes_of e) wide
journal_more spare briefs_room frames_room causes_room briefs frames causes wide e b frames_after causes_after k one short more_frames more_causes f c w =
    let n : length (frames ++ stack_of e) ≡ length frames + length (stack_of e) = length-append frames (stack_of e) in
    let m : length (causes ++ causes_of e) ≡ length causes + length (causes_of e) = length-append causes (causes_of e) in
    let few : length (causes_of e) ≤ 1 = few_causes e in
    let p : length (briefs ++ b ∷ []) ≡ length briefs + 1 = length_push briefs b in
    record {
      has_frames = All-push (HasFrames (length (frames ++ stack_of e))) briefs b (λ i d lt. rw n (frames_grow (length frames) (length (stack_of e)) (get_or briefs i d) (k.has_frames i d lt))) f;
      has_causes = All-push (HasCause (length (causes ++ causes_of e))) briefs b (λ i d lt. rw m (cause_grows (length causes) (length (causes_of e)) (get_or briefs i d) (k.has_causes i d lt))) c;
      has_wide = All-push (HasWide (length wide)) briefs b k.has_wide w;
      few = omega (arith, m, few, p, k.few);
      few_wide = omega (arith, p, k.few_wide);
      few_frames = omega (arith, n, one, short, k.few_frames);
      small = omega (arith, p, one, k.small);
      room = omega (arith, p, one, k.room);
      room_frames = omega (arith, n, one, short, k.room_frames, more_frames);
      room_causes = omega (arith, m, one, few, k.room_causes, more_causes);
    }

-- an entry that is kept in full does too
pub journal_more_wide : (spare briefs_room frames_room causes_room : ℕ) (briefs : List Brief) (frames : List Frame) (causes : List Cause) (wide : List Entry) (e : Entry)
    → IsJournal spare briefs_room frames_room causes_room briefs frames causes wide → 1 ≤ spare
    → IsJournal (spare - 1) briefs_room frames_room causes_room (briefs ++ brief.Wide (length wide) ∷ []) frames causes (wide ++ e ∷ [])
journal_more_wide spare briefs_room frames_room causes_room briefs frames causes wide e k one =
    let b : Brief = brief.Wide (length wide) in
    let n : length (wide ++ e ∷ []) ≡ length wide + 1 = length_push wide e in
    let p : length (briefs ++ b ∷ []) ≡ length briefs + 1 = length_push briefs b in
    record {
      has_frames = All-push (HasFrames (length frames)) briefs b k.has_frames tt;
      has_causes = All-push (HasCause (length causes)) briefs b k.has_causes tt;
      has_wide = All-push (HasWide (length (wide ++ e ∷ []))) briefs b (λ i d lt. rw n (wide_grows (length wide) (get_or briefs i d) (k.has_wide i d lt))) (omega (arith, n));
      few = omega (arith, p, k.few);
      few_wide = omega (arith, n, p, k.few_wide);
      few_frames = omega (arith, one, k.few_frames);
      small = omega (arith, p, one, k.small);
      room = omega (arith, p, one, k.room);
      room_frames = omega (arith, one, k.room_frames);
      room_causes = omega (arith, one, k.room_causes);
    }
