-- The verdict that is found by tests is the verdict.
use Rattle.std.proofs.Common.{◌≡◌, ℕ, ◌≤◌, ◌<◌, ◌⊎◌, Bool, true, false, ◌&&◌, refl, ap, sym, ◌∙◌, subst, inl, inr, List, [], ◌∷◌, ◌++◌, length, take, append_assoc, append-nil}
use Rattle.std.specs.Prelude.{◌==◌, Option, Some, None, is_some, slice_get, nat_le, not, if◌then◌else◌}
use Rattle.std.specs.Bool.{Decides}
use Rattle.std.specs.List.{list_all}
use Rattle.std.proofs.lemmas.Bool.{false≢true, true≢false, le-leb, leb-true}
use Rattle.std.proofs.lemmas.Bool.Decides.{Decides-eqb, Decides-ltb, Decides-and, Decides-or, Decides-like, Decides-by_and, Decides-below_and}
use Rattle.std.proofs.lemmas.List.{length-reverse}
use Rattle.std.proofs.lemmas.Option.{same_Some}
use Rattle.std.proofs.lemmas.Slice.Eq.{slice_eq-Decides}
use Rattle.dim_base.specs.declared.Tid.{Tid}
use Rattle.dim_base.specs.declared.Lid.{Lid}
use Rattle.dim_stack.specs.declared.Frame.{Frame}
use Rattle.dim_stack.specs.Order.{frame_eq}
use Rattle.dim_asm.specs.Code.{Code, thread_count, lock_count}
use Rattle.dim_rag.specs.declared.entry.Edge.{Edge}
use Rattle.dim_rag.specs.declared.entry.Entry.{Entry}
use Rattle.dim_rag.specs.declared.entry.Entry.TheVariants.{Go, Yield, Got, Free, Took, Miss, End, Break, Learn}
use Rattle.dim_rag.specs.declared.entry.Mode.{Mode}
use Rattle.dim_rag.specs.declared.entry.Mode.TheVariants.{Running, Allowed, Yielding, Ended}
use Rattle.dim_rag.specs.declared.entry.Why.{Why}
use Rattle.dim_rag.specs.declared.entry.Why.TheVariants.{Done, Trapped, Spent}
use Rattle.dim_rag.specs.Edges.{standing}
use Rattle.dim_rag.specs.Fits.{IsInRange}
use Rattle.dim_rag.specs.History.{past, mode}
use Rattle.dim_rag.specs.Holder.{holder}
use Rattle.dim_rag.specs.Steps.{AreCycles, CyclesLaw, IsCycle, births as births_of}
use Rattle.dim_rag.specs.Tables.{thread_of, caller_of}
use Rattle.dim_rag.specs.Waits.{WaitsLaw, waits}
use Rattle.dim_rag.proofs.Exports.{Decides-entry, past_more}
use Rattle.dim_gate.specs.Answer.{entry_of}
use Rattle.dim_gate.specs.Gate.{Constants}
use Rattle.dim_gate.specs.Legal.{Legal, IsLegalAfter, giver_of as number_of_caller, command_of}
use Rattle.dim_gate.specs.Settled.{HasEnded, IsSettled, IsWaiting, is_known, are_followed}
use Rattle.dim_gate.proofs.Exports.{followed_law}
use Rattle.dim_monitor.specs.Found.{cycles_of}
use Rattle.dim_vm.specs.Configuration.{Configuration, is_ended, next_of}
use Rattle.dim_vm.specs.Fitting.{FitsEntry, FitsNext, IsWanting, IsRetaking, IsFreeing, IsTrying}
use Rattle.dim_vm.specs.Frames.{stack_of}
use Rattle.dim_vm.specs.Table.{Next, Plain, Ends, Wants, Retakes, Frees, Tries}
use Rattle.dim_vm.specs.Walks.{Walks, FitsCaller, IsAwake, configuration, is_by}
use Rattle.dim_trace.specs.declared.verdict.Rule.TheVariants as rule
use Rattle.dim_trace.specs.declared.verdict.Verdict.{Verdict}
use Rattle.dim_trace.specs.declared.verdict.Verdict.TheVariants.{Yes, No}
use Rattle.dim_execution.specs.Executes.{Executes}
use Rattle.dim_rag.specs.Places.{before}
use Rattle.dim_trace.specs.Checking.{IsSoundTo, IsVerdict}
use Rattle.dim_trace.specs.Tested.{FoundLaw, same_stack, are_among, is_in_range, is_made, is_legal, wants, retakes, frees, tries, wants_some, ends, fits_next, fits, is_awake, is_move, rests, all_rest, is_settled, by_tests, verdict_after, verdict_of}
use Rattle.dim_trace.proofs.Settling.{of_cycles}

-- what is never so
never : {P : Type 0} → (P → ⊥) → Decides false P
never f = (λ q. absurd (false≢true q), λ k. absurd (f k))

always : {P : Type 0} → P → Decides true P
always k = (λ q. k, λ x. refl)

decides_3 : {P Q R : Type 0} (x y z : Bool) → Decides x P → Decides y Q → Decides z R → Decides (x && (y && z)) (P × Q × R)
decides_3 x y z p q r = Decides-like _ (λ k. (k.0, k.1.0, k.1.1)) (λ k. (k.0, (k.1, k.2))) (Decides-and _ _ p (Decides-and _ _ q r))

-- An entry is legal.
among : (n m : ℕ) (t : Tid) (l : Lid) → Decides (are_among n m t l) ((t.0 < n) × (l.0 < m))
among n m t l = Decides-and _ _ (Decides-ltb t.0 n) (Decides-ltb l.0 m)

in_range : (n m : ℕ) (e : Entry) → Decides (is_in_range n m e) (IsInRange n m e)
in_range n m (Go t l s) = among n m t l
in_range n m (Yield t l s sig births) = among n m t l
in_range n m (Got t l) = among n m t l
in_range n m (Free t l) = among n m t l
in_range n m (Took t l s) = among n m t l
in_range n m (Miss t l s why) = among n m t l
in_range n m (End t why) = Decides-ltb t.0 n
in_range n m (Break set t) = Decides-ltb t.0 n
in_range n m (Learn births) = always tt

made : (o : Option Entry) (e : Entry) → Decides (is_made o e) (o ≡ Some e)
made None e = never (λ k. cc)
made (Some x) e = (λ q. ap Some ((Decides-entry x e).0 q), λ k. (Decides-entry x e).1 (same_Some x e k))

legal : (c : Constants) (h : List Entry) (e : Entry) → Decides (is_legal c h e) (IsLegalAfter c h e)
legal c h e =
    Decides-like _ (λ k. record { in_range = k.0; entry_is = k.1 }) (λ k. (k.in_range, k.entry_is))
    (Decides-and _ _ (in_range c.threads c.locks e) (made (entry_of c (number_of_caller c.threads e) (command_of e) h) e))

-- An entry is a move.
lid : (m l : Lid) → Decides (m.0 == l.0) (m ≡ l)
lid m l = (λ q i. record { 0 = (Decides-eqb m.0 l.0).0 q i }, λ e. (Decides-eqb m.0 l.0).1 (ap (λ (x : Lid). x.0) e))

frame : (a b : Frame) → Decides (frame_eq a b) (a ≡ b)
frame a b = Decides-like _ (λ k i. record { func = k.0 i; at = k.1 i }) (λ e. (ap (λ (x : Frame). x.func) e, ap (λ (x : Frame). x.at) e)) (Decides-and _ _ (Decides-eqb a.func b.func) (Decides-eqb a.at b.at))

stack : (s r : List Frame) → Decides (same_stack s r) (s ≡ r)
stack s r = slice_eq-Decides frame s r _ refl

wanting : (l : Lid) (n : Next) → Decides (wants l n) (IsWanting l n)
wanting l (Wants m after) = Decides-like _ (λ k. (after, ap (λ x. Wants x after) k)) (λ w. (let k : Wants m after ≡ Wants l w.0 = w.1 in cc)) (lid m l)
wanting l (Plain b) = never (λ w. (let k : Plain b ≡ Wants l w.0 = w.1 in cc))
wanting l (Ends why) = never (λ w. (let k : Ends why ≡ Wants l w.0 = w.1 in cc))
wanting l (Retakes m after) = never (λ w. (let k : Retakes m after ≡ Wants l w.0 = w.1 in cc))
wanting l (Frees m after) = never (λ w. (let k : Frees m after ≡ Wants l w.0 = w.1 in cc))
wanting l (Tries m took missed) = never (λ w. (let k : Tries m took missed ≡ Wants l w.0 = w.1 in cc))

freeing : (l : Lid) (n : Next) → Decides (frees l n) (IsFreeing l n)
freeing l (Frees m after) = Decides-like _ (λ k. (after, ap (λ x. Frees x after) k)) (λ w. (let k : Frees m after ≡ Frees l w.0 = w.1 in cc)) (lid m l)
freeing l (Plain b) = never (λ w. (let k : Plain b ≡ Frees l w.0 = w.1 in cc))
freeing l (Ends why) = never (λ w. (let k : Ends why ≡ Frees l w.0 = w.1 in cc))
freeing l (Wants m after) = never (λ w. (let k : Wants m after ≡ Frees l w.0 = w.1 in cc))
freeing l (Retakes m after) = never (λ w. (let k : Retakes m after ≡ Frees l w.0 = w.1 in cc))
freeing l (Tries m took missed) = never (λ w. (let k : Tries m took missed ≡ Frees l w.0 = w.1 in cc))

trying : (l : Lid) (n : Next) → Decides (tries l n) (IsTrying l n)
trying l (Tries m took missed) = Decides-like _ (λ k. (took, missed, ap (λ x. Tries x took missed) k)) (λ w. (let k : Tries m took missed ≡ Tries l w.0 w.1 = w.2 in cc)) (lid m l)
trying l (Plain b) = never (λ w. (let k : Plain b ≡ Tries l w.0 w.1 = w.2 in cc))
trying l (Ends why) = never (λ w. (let k : Ends why ≡ Tries l w.0 w.1 = w.2 in cc))
trying l (Wants m after) = never (λ w. (let k : Wants m after ≡ Tries l w.0 w.1 = w.2 in cc))
trying l (Retakes m after) = never (λ w. (let k : Retakes m after ≡ Tries l w.0 w.1 = w.2 in cc))
trying l (Frees m after) = never (λ w. (let k : Frees m after ≡ Tries l w.0 w.1 = w.2 in cc))

retaking : (l : Lid) (n : Next) → Decides (retakes l n) (IsRetaking l n)
retaking l (Retakes m after) = Decides-like _ (λ k. (after, ap (λ x. Retakes x after) k)) (λ w. (let k : Retakes m after ≡ Retakes l w.0 = w.1 in cc)) (lid m l)
retaking l (Plain b) = never (λ w. (let k : Plain b ≡ Retakes l w.0 = w.1 in cc))
retaking l (Ends why) = never (λ w. (let k : Ends why ≡ Retakes l w.0 = w.1 in cc))
retaking l (Wants m after) = never (λ w. (let k : Wants m after ≡ Retakes l w.0 = w.1 in cc))
retaking l (Frees m after) = never (λ w. (let k : Frees m after ≡ Retakes l w.0 = w.1 in cc))
retaking l (Tries m took missed) = never (λ w. (let k : Tries m took missed ≡ Retakes l w.0 = w.1 in cc))

wanting_some : (n : Next) → Decides (wants_some n) ((l : Lid) × IsWanting l n)
wanting_some (Wants m after) = always (m, (after, refl))
wanting_some (Plain b) = never (λ w. (let k : Plain b ≡ Wants w.0 w.1.0 = w.1.1 in cc))
wanting_some (Ends why) = never (λ w. (let k : Ends why ≡ Wants w.0 w.1.0 = w.1.1 in cc))
wanting_some (Retakes m after) = never (λ w. (let k : Retakes m after ≡ Wants w.0 w.1.0 = w.1.1 in cc))
wanting_some (Frees m after) = never (λ w. (let k : Frees m after ≡ Wants w.0 w.1.0 = w.1.1 in cc))
wanting_some (Tries m took missed) = never (λ w. (let k : Tries m took missed ≡ Wants w.0 w.1.0 = w.1.1 in cc))

ending : (t : Tid) (why : Why) (n : Next) → Decides (ends t why n) (n ≡ Ends why)
ending t why (Ends w) = Decides-like _ (λ k. ap Ends (let q : End t w ≡ End t why = k in cc)) (λ k. ap (End t) (let q : Ends w ≡ Ends why = k in cc)) (Decides-entry (End t w) (End t why))
ending t why (Plain b) = never (λ k. cc)
ending t why (Wants m after) = never (λ k. cc)
ending t why (Retakes m after) = never (λ k. cc)
ending t why (Frees m after) = never (λ k. cc)
ending t why (Tries m took missed) = never (λ k. cc)

least : (n units : ℕ) → Decides (nat_le n units) (n ≤ units)
least n units = (leb-true n units, le-leb n units)

module _ (units : ℕ) (calls : List Frame) (A : Type 0) (awake : Bool) (is : Decides awake A) where
  next_fits : (e : Entry) (n : Next) → Decides (fits_next units calls awake e n) (FitsNext units calls A e n)
  next_fits (Go t l s) n = decides_3 _ _ _ (least 2 units) (stack s calls) (wanting l n)
  next_fits (Yield t l s sig births) n = decides_3 _ _ _ (least 2 units) (stack s calls) (wanting l n)
  next_fits (Got t l) n = Decides-and _ _ (least 1 units) (wanting l n)
  next_fits (Free t l) n = Decides-and _ _ (least 1 units) (freeing l n)
  next_fits (Took t l s) n = decides_3 _ _ _ (least 1 units) (stack s calls) (Decides-or _ _ (trying l n) (retaking l n))
  next_fits (Miss t l s why) n = decides_3 _ _ _ (least 1 units) (stack s calls) (trying l n)
  next_fits (End t Spent) n = Decides-or _ _ (Decides-eqb units 0) (decides_3 _ _ _ (Decides-eqb units 1) is (wanting_some n))
  next_fits (End t Done) n = Decides-and _ _ (least 1 units) (ending t Done n)
  next_fits (End t (Trapped trap)) n = Decides-and _ _ (least 1 units) (ending t (Trapped trap) n)
  next_fits (Break set t) n = never (λ k. k)
  next_fits (Learn births) n = never (λ k. k)

going : (b : Bool) → Decides (not b) (b ≡ false)
going true = never true≢false
going false = always refl

by : (t : Tid) (o : Option Tid) → Decides (is_by t o) (o ≡ Some t)
by t None = never (λ k. cc)
by t (Some u) = (λ q. ap Some (let k : u.0 ≡ t.0 = (Decides-eqb u.0 t.0).0 q in ap (λ n. record { 0 = n }) k), λ k. (Decides-eqb u.0 t.0).1 (ap (λ (x : Tid). x.0) (same_Some u t k)))

entry_fits : (p : Code) (A : Type 0) (awake : Bool) → Decides awake A → (c : Configuration) (e : Entry) → Decides (fits p awake c e) (FitsEntry p A c e)
entry_fits p A awake is c e =
    Decides-like _ (λ k. record { going = k.0; by = k.1; next = k.2 }) (λ k. (k.going, k.by, k.next))
    (decides_3 _ _ _ (going (is_ended c.state)) (by c.thread (thread_of e)) (next_fits c.units (stack_of p c.context.frames) A awake is e (next_of p c)))

none_there : (o : Option ℕ) → Decides (not (is_some o)) (o ≡ None)
none_there None = always refl
none_there (Some n) = never (λ k. cc)

module _ (p : Code) (t : Tid) (h : List Entry) where
  abbrev cause : Option ℕ
  cause = standing (thread_count p) (lock_count p) t.0 h

  awake_in : (m : Mode) → mode t.0 h ≡ m → Decides (is_awake m cause) (IsAwake p t h)
  awake_in Running q = always (inl q)
  awake_in (Yielding l place) q =
      Decides-like _ (λ k. inr record { yields = (l, place, q); woken = k }) (λ a. elim a [
        | inl k ↦ absurd (let z : Yielding l place ≡ Running = sym q ∙ k in cc)
        | inr w ↦ w.woken
      ]) (none_there cause)
  awake_in (Allowed l birth) q = never (λ a. elim a [
    | inl k ↦ (let z : Allowed l birth ≡ Running = sym q ∙ k in cc)
    | inr w ↦ (let z : Allowed l birth ≡ Yielding w.yields.0 w.yields.1 = sym q ∙ w.yields.2 in cc)
  ])
  awake_in (Ended place) q = never (λ a. elim a [
    | inl k ↦ (let z : Ended place ≡ Running = sym q ∙ k in cc)
    | inr w ↦ (let z : Ended place ≡ Yielding w.yields.0 w.yields.1 = sym q ∙ w.yields.2 in cc)
  ])

move : (p : Code) (fuel : ℕ) (h : List Entry) (e : Entry) (o : Option Tid) → Decides (is_move p fuel h e o) (FitsCaller p fuel h e o)
move p fuel h e None = always tt
move p fuel h e (Some t) = entry_fits p (IsAwake p t h) _ (awake_in p t h (mode t.0 h) refl) (configuration p fuel t h) e

-- Some entries are settled.
module _ (n : ℕ) (h : List Entry) where
  resting : (t : ℕ) (m : Mode) → mode t h ≡ m → Decides (rests n h m) (HasEnded t h ⊎ IsWaiting n t h)
  resting t (Ended place) q = always (inl (place, q))
  resting t (Allowed l birth) q = (
    λ k. inr record { lock = l; birth = birth; allowed = q; held = k },
    λ a. elim a [
      | inl k ↦ absurd (let z : Allowed l birth ≡ Ended k.0 = sym q ∙ k.1 in cc)
      | inr w ↦ (let z : Allowed l birth ≡ Allowed w.lock w.birth = sym q ∙ w.allowed in let same : w.lock ≡ l = cc in ap (λ (x : Lid). is_some (holder n x.0 h)) (sym same) ∙ w.held)
    ],
  )
  resting t Running q = never (λ a. elim a [
    | inl k ↦ (let z : Running ≡ Ended k.0 = sym q ∙ k.1 in cc)
    | inr w ↦ (let z : Running ≡ Allowed w.lock w.birth = sym q ∙ w.allowed in cc)
  ])
  resting t (Yielding l place) q = never (λ a. elim a [
    | inl k ↦ (let z : Yielding l place ≡ Ended k.0 = sym q ∙ k.1 in cc)
    | inr w ↦ (let z : Yielding l place ≡ Allowed w.lock w.birth = sym q ∙ w.allowed in cc)
  ])

  all_resting : (k : ℕ) → Decides (all_rest n h k) ((t : ℕ) → t < k → HasEnded t h ⊎ IsWaiting n t h)
  all_resting k = Decides-below_and (λ t. rests n h (mode t h)) (λ t. HasEnded t h ⊎ IsWaiting n t h) (all_rest n h) (λ t. resting t (mode t h) refl) refl (λ _. refl) k

at_true : (b : Bool) → Decides b (b ≡ true)
at_true b = (λ q. q, λ q. q)

module _ (cycles : CyclesLaw) (threads : WaitsLaw) (c : Constants) (h : List Entry) where
  known : Decides (list_all (is_known c h) (cycles_of c.threads h)) ((cycle : List Edge) → IsCycle (waits c.threads h) cycle → is_known c h (births_of cycle) ≡ true)
  known =
      let exact : AreCycles (waits c.threads h) (cycles_of c.threads h) = (cycles (waits c.threads h) c.threads (threads c.threads h)).0 in
      let all = of_cycles (waits c.threads h) (cycles_of c.threads h) exact (λ b. is_known c h b ≡ true) in
      Decides-like _ all.0 all.1 (Decides-by_and (is_known c h) (λ b. is_known c h b ≡ true) (list_all (is_known c h)) (λ b. at_true (is_known c h b)) refl (λ _ _. refl) (cycles_of c.threads h))

  settled : Decides (is_settled c h) (IsSettled c h)
  settled = Decides-like _ (λ k. record { threads = k.0; cycles = k.1.0; starvations = (followed_law c h).0 k.1.1 }) (λ s. (s.threads, (s.cycles, (followed_law c h).1 s.starvations))) (Decides-and _ _ (all_resting c.threads h c.threads) (Decides-and _ _ known (at_true (are_followed c.threads c.locks None h))))

-- Place by place.
front : (done rest : List Entry) → take (length done) (done ++ rest) ≡ done
front [] rest = refl
front (x ∷ done) rest = ap (λ xs. x ∷ xs) (front done rest)

next_is : (done : List Entry) (e : Entry) (rest : List Entry) → slice_get (done ++ e ∷ rest) (length done) ≡ Some e
next_is [] e rest = refl
next_is (x ∷ done) e rest = next_is done e rest

module _ (c : Constants) (p : Code) (fuel : ℕ) (done : List Entry) (passed : Legal c (past done)) (walked : Walks p fuel (past done)) where
  -- those before a place
  same_front : (rest : List Entry) (place : ℕ) → place ≡ length done → past done ≡ before place (done ++ rest)
  same_front rest place q = ap past (sym (front done rest)) ∙ ap (λ n. before n (done ++ rest)) (sym q)

  sound : (rest : List Entry) (place : ℕ) → place ≡ length done → IsSoundTo c p fuel (done ++ rest) place
  sound rest place q = record { legal = subst (Legal c) (same_front rest place q) passed; walks = subst (Walks p fuel) (same_front rest place q) walked }

  module _ (e : Entry) (rest : List Entry) (place : ℕ) (q : place ≡ length done) where
    here : slice_get (done ++ e ∷ rest) place ≡ Some e
    here = ap (slice_get (done ++ e ∷ rest)) q ∙ next_is done e rest

    earlier : past done ≡ before place (done ++ e ∷ rest)
    earlier = same_front (e ∷ rest) place q

    tested : (granted moved : Bool) → Decides granted (IsLegalAfter c (past done) e) → Decides moved (FitsCaller p fuel (past done) e (caller_of e)) → (on : Verdict)
        → (IsLegalAfter c (past done) e → FitsCaller p fuel (past done) e (caller_of e) → IsVerdict c p fuel (done ++ e ∷ rest) on)
        → IsVerdict c p fuel (done ++ e ∷ rest) (by_tests granted moved place on)
    tested false moved l m on go =
        (sound (e ∷ rest) place q, record { entry = e; here = here; illegal = λ k. false≢true (l.1 (subst (λ h. IsLegalAfter c h e) (sym earlier) k)) })
    tested true false l m on go = (
      sound (e ∷ rest) place q,
      record {
        entry = e;
        here = here;
        legal = subst (λ h. IsLegalAfter c h e) earlier (l.0 refl);
        no_move = λ k. false≢true (m.1 (subst (λ h. FitsCaller p fuel h e (caller_of e)) (sym earlier) k));
      },
    )
    tested true true l m on go = go (l.0 refl) (m.0 refl)

  closed : (at_end : Bool) → Decides at_end (IsSettled c (past done)) → (place : ℕ) → place ≡ length done → IsVerdict c p fuel (done ++ []) (if at_end then Yes else No place rule.Settled)
  closed true s place q =
      subst (Executes c p fuel) (sym (append-nil done)) record { legal = passed; walks = walked; settled = s.0 refl }
  closed false s place q = (
    sound [] place q,
    record {
      all = q ∙ ap length (sym (append-nil done));
      unsettled = λ k. false≢true (s.1 (subst (λ es. IsSettled c (past es)) (append-nil done) k));
    },
  )

module _ (cycles : CyclesLaw) (threads : WaitsLaw) (c : Constants) (p : Code) (fuel : ℕ) where
  found_after : (done rest : List Entry) → Legal c (past done) → Walks p fuel (past done) → IsVerdict c p fuel (done ++ rest) (verdict_after c p fuel (past done) rest)
  unfolding verdict_after
  found_after done [] passed walked = closed c p fuel done passed walked (is_settled c (past done)) (settled cycles threads c (past done)) (length (past done)) (length-reverse done)
  found_after done (e ∷ rest) passed walked =
      let more : past (done ++ e ∷ []) ≡ e ∷ past done = past_more done e in
      tested c p fuel done passed walked e rest (length (past done)) (length-reverse done) (is_legal c (past done) e) (is_move p fuel (past done) e (caller_of e))
      (legal c (past done) e) (move p fuel (past done) e (caller_of e)) (verdict_after c p fuel (e ∷ past done) rest)
      (λ l m.
      subst (λ h. IsVerdict c p fuel (done ++ e ∷ rest) (verdict_after c p fuel h rest)) more
      (subst (λ es. IsVerdict c p fuel es (verdict_after c p fuel (past (done ++ e ∷ [])) rest)) (append_assoc done (e ∷ []) rest)
      (found_after (done ++ e ∷ []) rest (subst (Legal c) (sym more) (l, passed)) (subst (Walks p fuel) (sym more) (m, walked)))))

  pub found : (entries : List Entry) → IsVerdict c p fuel entries (verdict_of c p fuel entries)
  unfolding verdict_of
  found entries = found_after [] entries tt tt

pub found_law : CyclesLaw → WaitsLaw → FoundLaw
found_law cycles threads c p fuel entries = found cycles threads c p fuel entries
