-- Each starvation that a settle learns is broken out of at once.
use Rattle.std.proofs.Common.{◌≡◌, ℕ, ◌+◌, ◌≤◌, Bool, true, false, ◌||◌, refl, ap, sym, ◌∙◌, subst, inl, inr, ◌⊎◌, arith, List, [], ◌∷◌, ◌++◌, length}
use Rattle.std.specs.Prelude.{⊤, Option, Some, None, is_some, is_none, if◌then◌else◌}
use Rattle.std.proofs.lemmas.Bool.{cases_Bool, and_parts, and_from, or_right, false≢true}
use Rattle.dim_base.specs.declared.Tid.{Tid}
use Rattle.dim_rag.specs.declared.entry.Entry.{Entry}
use Rattle.dim_rag.specs.declared.entry.Entry.TheVariants as entry
use Rattle.dim_rag.specs.declared.command.Command.{Command}
use Rattle.dim_rag.specs.declared.command.Command.TheVariants.{Break, Learn}
use Rattle.dim_rag.specs.History.{mode}
use Rattle.dim_rag.specs.Steps.{cycles_below}
use Rattle.dim_rag.specs.Stuck.{choice}
use Rattle.dim_rag.specs.Certificate.{cycle_fault}
use Rattle.dim_rag.specs.Starvation.{starved}
use Rattle.dim_rag.proofs.Exports.{waits_same, choice_same}
use Rattle.dim_signature.specs.Catalogue.{signature_number}
use Rattle.dim_gate.specs.Gate.{Constants}
use Rattle.dim_gate.specs.Known.{known_sigs, stacks_of}
use Rattle.dim_gate.specs.Starved.{unlearnt}
use Rattle.dim_gate.specs.Answer.{entry_of}
use Rattle.dim_gate.specs.Legal.{Legal}
use Rattle.dim_gate.specs.Learns.{learns, is_of_cycle}
use Rattle.dim_gate.specs.Settled.{is_given, breaks_out, is_followed, are_followed}
use Rattle.dim_gate.proofs.Exports.{given_self, made_so as made, missing_before, learnt_done, is_new, none_chosen}
use Rattle.dim_monitor.specs.Found.{cycles_of}
use Rattle.dim_run.specs.Settle.{is_known, first_unknown, unknown_cycle, greatest_stuck, learn_or, break_of, next_break, next_way_out, next_command, unlearnt_starvation, settled}
use Rattle.dim_run.specs.Living.{by_threads}
use Rattle.dim_run.proofs.GreatestStays.{greatest_same}
use Rattle.dim_run.proofs.SettleSteps.{IsStep, unknown}
use Rattle.dim_run.proofs.SettleEnds.{next_keeps, settled_law}

-- ---- entries that learn nothing
abbrev pub NoLearns : List Entry → Type 0
NoLearns [] = ⊤
NoLearns (entry.Learn b ∷ es) = ⊥
NoLearns (e ∷ es) = NoLearns es

learns_grow : (es h : List Entry) → length (learns h) ≤ length (learns (es ++ h))
learns_grow [] h = omega arith
learns_grow (entry.Learn b ∷ es) h = let i = learns_grow es h in omega (arith, i)
learns_grow (entry.Go t l s ∷ es) h = learns_grow es h
learns_grow (entry.Yield t l s sig b ∷ es) h = learns_grow es h
learns_grow (entry.Got t l ∷ es) h = learns_grow es h
learns_grow (entry.Free t l ∷ es) h = learns_grow es h
learns_grow (entry.Took t l s ∷ es) h = learns_grow es h
learns_grow (entry.Miss t l s why ∷ es) h = learns_grow es h
learns_grow (entry.End t why ∷ es) h = learns_grow es h
learns_grow (entry.Break set t ∷ es) h = learns_grow es h

-- where they bring no Learn, they learn nothing
pub none_by_learns : (es h : List Entry) → length (learns (es ++ h)) ≤ length (learns h) → NoLearns es
none_by_learns [] h le = tt
none_by_learns (entry.Learn b ∷ es) h le = absurd (let i = learns_grow es h in omega (arith, i, le))
none_by_learns (entry.Go t l s ∷ es) h le = none_by_learns es h le
none_by_learns (entry.Yield t l s sig b ∷ es) h le = none_by_learns es h le
none_by_learns (entry.Got t l ∷ es) h le = none_by_learns es h le
none_by_learns (entry.Free t l ∷ es) h le = none_by_learns es h le
none_by_learns (entry.Took t l s ∷ es) h le = none_by_learns es h le
none_by_learns (entry.Miss t l s why ∷ es) h le = none_by_learns es h le
none_by_learns (entry.End t why ∷ es) h le = none_by_learns es h le
none_by_learns (entry.Break set t ∷ es) h le = none_by_learns es h le

by_threads_le : (es : List Entry) → by_threads es ≤ length es
by_threads_le [] = omega arith
by_threads_le (entry.Learn b ∷ es) = let i = by_threads_le es in omega (arith, i)
by_threads_le (entry.Break set t ∷ es) = let i = by_threads_le es in omega (arith, i)
by_threads_le (entry.Go t l s ∷ es) = let i = by_threads_le es in omega (arith, i)
by_threads_le (entry.Yield t l s sig b ∷ es) = let i = by_threads_le es in omega (arith, i)
by_threads_le (entry.Got t l ∷ es) = let i = by_threads_le es in omega (arith, i)
by_threads_le (entry.Free t l ∷ es) = let i = by_threads_le es in omega (arith, i)
by_threads_le (entry.Took t l s ∷ es) = let i = by_threads_le es in omega (arith, i)
by_threads_le (entry.Miss t l s why ∷ es) = let i = by_threads_le es in omega (arith, i)
by_threads_le (entry.End t why ∷ es) = let i = by_threads_le es in omega (arith, i)

-- where all are by threads, they learn nothing
pub none_by_threads : (es : List Entry) → length es ≤ by_threads es → NoLearns es
none_by_threads [] le = tt
none_by_threads (entry.Learn b ∷ es) le = absurd (let i = by_threads_le es in omega (arith, i, le))
none_by_threads (entry.Break set t ∷ es) le = absurd (let i = by_threads_le es in omega (arith, i, le))
none_by_threads (entry.Go t l s ∷ es) le = none_by_threads es (omega (arith, le))
none_by_threads (entry.Yield t l s sig b ∷ es) le = none_by_threads es (omega (arith, le))
none_by_threads (entry.Got t l ∷ es) le = none_by_threads es (omega (arith, le))
none_by_threads (entry.Free t l ∷ es) le = none_by_threads es (omega (arith, le))
none_by_threads (entry.Took t l s ∷ es) le = none_by_threads es (omega (arith, le))
none_by_threads (entry.Miss t l s why ∷ es) le = none_by_threads es (omega (arith, le))
none_by_threads (entry.End t why ∷ es) le = none_by_threads es (omega (arith, le))

module _ (n m : ℕ) where
  -- whatever comes next, where nothing need come
  here : (e : Entry) (h : List Entry) (o : Option Entry) → is_followed n m h None e ≡ true → is_followed n m h o e ≡ true
  here (entry.Learn b) h o q = elim (cases_Bool (is_of_cycle n m h b)) [
    | inl t ↦ ap (λ x. x || breaks_out n m h b o) t
    | inr f ↦ absurd (false≢true (sym (ap (λ x. x || false) f) ∙ q))
  ]
  here (entry.Go t l s) h o q = refl
  here (entry.Yield t l s sig b) h o q = refl
  here (entry.Got t l) h o q = refl
  here (entry.Free t l) h o q = refl
  here (entry.Took t l s) h o q = refl
  here (entry.Miss t l s why) h o q = refl
  here (entry.End t why) h o q = refl
  here (entry.Break set t) h o q = refl

  pub any_next : (o : Option Entry) (h : List Entry) → are_followed n m None h ≡ true → are_followed n m o h ≡ true
  any_next o [] q = refl
  any_next o (e ∷ h) q = let w = and_parts (is_followed n m h None e) (are_followed n m (Some e) h) q in and_from (is_followed n m h o e) (are_followed n m (Some e) h) (here e h o w.0) w.1

  -- entries that learn nothing owe nothing
  pub followed_on : (es h : List Entry) → NoLearns es → are_followed n m None h ≡ true → are_followed n m None (es ++ h) ≡ true
  followed_on [] h k q = q
  followed_on (entry.Learn b ∷ es) h k q = absurd k
  followed_on (entry.Go t l s ∷ es) h k q = any_next (Some (entry.Go t l s)) (es ++ h) (followed_on es h k q)
  followed_on (entry.Yield t l s sig b ∷ es) h k q = any_next (Some (entry.Yield t l s sig b)) (es ++ h) (followed_on es h k q)
  followed_on (entry.Got t l ∷ es) h k q = any_next (Some (entry.Got t l)) (es ++ h) (followed_on es h k q)
  followed_on (entry.Free t l ∷ es) h k q = any_next (Some (entry.Free t l)) (es ++ h) (followed_on es h k q)
  followed_on (entry.Took t l s ∷ es) h k q = any_next (Some (entry.Took t l s)) (es ++ h) (followed_on es h k q)
  followed_on (entry.Miss t l s why ∷ es) h k q = any_next (Some (entry.Miss t l s why)) (es ++ h) (followed_on es h k q)
  followed_on (entry.End t why ∷ es) h k q = any_next (Some (entry.End t why)) (es ++ h) (followed_on es h k q)
  followed_on (entry.Break set t ∷ es) h k q = any_next (Some (entry.Break set t)) (es ++ h) (followed_on es h k q)

-- ---- a settle
-- the newest entry is the Learn of a starvation, and its Break comes next
record IsOwed (c : Constants) (h : List Entry) : Type 0 where
  older : List Entry
  births : List ℕ
  set : ℕ
  thread : Tid
  newest : h ≡ entry.Learn births ∷ older
  before : are_followed c.threads c.locks None older ≡ true
  next : next_command c h ≡ Some (Break set thread)
  starvation : starved c.threads c.locks older set ≡ Some births

-- nothing is owed, or the Break that comes next
abbrev Owes : Constants → List Entry → Type 0
Owes c h = (are_followed c.threads c.locks None h ≡ true) ⊎ IsOwed c h

module _ (c : Constants) (h : List Entry) where
  made_learn : (b : List ℕ) (e : Entry) → entry_of c c.threads (Learn b) h ≡ Some e → entry.Learn b ≡ e
  made_learn b e q = (made c.threads c.locks c.cap (known_sigs c.loaded c.depth h) record { 0 = c.threads } h e (Learn b) q).0

  made_break : (set : ℕ) (t : Tid) (e : Entry) → entry_of c c.threads (Break set t) h ≡ Some e → entry.Break set t ≡ e
  made_break set t e q = (made c.threads c.locks c.cap (known_sigs c.loaded c.depth h) record { 0 = c.threads } h e (Break set t) q).0

  -- a Learn comes next only where nothing is owed
  nothing_owed : (b : List ℕ) → next_command c h ≡ Some (Learn b) → Owes c h → are_followed c.threads c.locks None h ≡ true
  nothing_owed b q (inl k) = k
  nothing_owed b q (inr w) = absurd (let n : Some (Break w.set w.thread) ≡ Some (Learn b) = sym w.next ∙ q in cc)

  -- after a Break nothing is
  breaks_owe : (set : ℕ) (t : Tid) → next_command c h ≡ Some (Break set t) → Owes c h → are_followed c.threads c.locks None (entry.Break set t ∷ h) ≡ true
  breaks_owe set t q (inl k) = any_next c.threads c.locks (Some (entry.Break set t)) h k
  breaks_owe set t q (inr w) =
      let same : Some (Break w.set w.thread) ≡ Some (Break set t) = sym w.next ∙ q in
      let same_set : w.set ≡ set = cc in
      let given : is_given w.births (starved c.threads c.locks w.older set) ≡ true = ap (is_given w.births) (subst (λ s. starved c.threads c.locks w.older s ≡ Some w.births) same_set w.starvation) ∙ given_self w.births in
      subst (λ (x : List Entry). are_followed c.threads c.locks (Some (entry.Break set t)) x ≡ true) (sym w.newest)
      (and_from (is_followed c.threads c.locks w.older (Some (entry.Break set t)) (entry.Learn w.births)) (are_followed c.threads c.locks (Some (entry.Learn w.births)) w.older)
      (or_right (is_of_cycle c.threads c.locks w.older w.births) (is_given w.births (starved c.threads c.locks w.older set)) given)
      (any_next c.threads c.locks (Some (entry.Learn w.births)) w.older w.before))

  -- the Learn of a cycle owes nothing
  cycle_owes : (b : List ℕ) → cycle_fault c.threads c.locks h b ≡ None → are_followed c.threads c.locks None h ≡ true → are_followed c.threads c.locks None (entry.Learn b ∷ h) ≡ true
  cycle_owes b q k =
      and_from (is_followed c.threads c.locks h None (entry.Learn b)) (are_followed c.threads c.locks (Some (entry.Learn b)) h)
      (ap (λ o. is_none o || false) q) (any_next c.threads c.locks (Some (entry.Learn b)) h k)

  module _ (b : List ℕ) where
    abbrev g : List Entry
    g = entry.Learn b ∷ h

    -- what is known stays known
    known_on : (ps : List ℕ) → is_known c h ps ≡ true → is_known c g ps ≡ true
    known_on ps k = go (signature_number (known_sigs c.loaded c.depth g) (stacks_of ps g)) refl
      where
        go : (o : Option ℕ) → signature_number (known_sigs c.loaded c.depth g) (stacks_of ps g) ≡ o → is_some o ≡ true
        go (Some i) q = refl
        go None q = absurd (false≢true (sym (ap is_some (missing_before c.threads c.locks c.cap c.loaded c.depth b h ps q)) ∙ k))

    all_on : (bs : List (List ℕ)) → first_unknown c h bs ≡ None → first_unknown c g bs ≡ None
    all_on [] q = refl
    all_on (x ∷ bs) q = elim (cases_Bool (is_known c h x)) [
      | inl k ↦ ap (λ (y : Bool). if y then first_unknown c g bs else Some x) (known_on x k) ∙ all_on bs (sym (ap (λ (y : Bool). if y then first_unknown c h bs else Some x) k) ∙ q)
      | inr k ↦ absurd (let z : Some x ≡ None = sym (ap (λ (y : Bool). if y then first_unknown c h bs else Some x) k) ∙ q in cc)
    ]

    cycles_same : cycles_of c.threads g ≡ cycles_of c.threads h
    cycles_same = ap (λ s. cycles_below s c.threads c.threads) (λ i t. waits_same b h c.threads (mode t h) i)

    none_on : unknown_cycle c h ≡ None → unknown_cycle c g ≡ None
    none_on q = ap (first_unknown c g) cycles_same ∙ all_on (cycles_of c.threads h) q

    -- behind the Learn of a starvation its Break comes next
    break_next : unknown_cycle c h ≡ None → unlearnt_starvation c h ≡ Some b → (t : ℕ) → choice (greatest_stuck c.threads c.locks h) c.locks h c.threads ≡ Some t
        → next_command c g ≡ Some (Break (greatest_stuck c.threads c.locks h) record { 0 = t })
    break_next none some t chosen =
        let set : ℕ = greatest_stuck c.threads c.locks h in
        ap (λ o. learn_or o (next_way_out c g)) (none_on none)
        ∙ ap (λ o. learn_or o (next_break c.threads c.locks g)) (ap (unlearnt c.threads c.locks c.cap (known_sigs c.loaded c.depth g) g) (greatest_same b h c.threads c.locks) ∙ learnt_done c.threads c.locks c.cap c.loaded c.depth b h set some)
        ∙ ap (λ s. break_of s (choice s c.locks g c.threads)) (greatest_same b h c.threads c.locks)
        ∙ ap (break_of set) (choice_same b h set c.locks c.threads ∙ chosen)

    starvation_owes : unknown_cycle c h ≡ None → unlearnt_starvation c h ≡ Some b → are_followed c.threads c.locks None h ≡ true → IsOwed c g
    starvation_owes none some k = go (choice (greatest_stuck c.threads c.locks h) c.locks h c.threads) refl
      where
        go : (o : Option ℕ) → choice (greatest_stuck c.threads c.locks h) c.locks h c.threads ≡ o → IsOwed c g
        go None e = absurd (let n : None ≡ Some b = sym (none_chosen c.threads c.locks c.cap (known_sigs c.loaded c.depth h) h (greatest_stuck c.threads c.locks h) e) ∙ some in cc)
        go (Some t) e = record {
          older = h;
          births = b;
          set = greatest_stuck c.threads c.locks h;
          thread = record { 0 = t };
          newest = refl;
          before = k;
          next = break_next none some t e;
          starvation = (is_new c.threads c.locks c.cap c.loaded c.depth b h (greatest_stuck c.threads c.locks h) some).2;
        }

  -- a step owes nothing, or the Break that comes next
  step_owes : (legal : Legal c h) → (few : c.threads ≤ 32) → (cap : length c.loaded + 16 ≤ c.cap) → (cmd : Command) → next_command c h ≡ Some cmd → (s : IsStep c h cmd) → Owes c h → Owes c (s.made ∷ h)
  step_owes legal few cap cmd q s o = first (unknown_cycle c h) refl q
    where
      learnt : (b : List ℕ) → Learn b ≡ cmd → Owes c (entry.Learn b ∷ h) → Owes c (s.made ∷ h)
      learnt b same k = subst (λ (e : Entry). Owes c (e ∷ h)) (made_learn b s.made (subst (λ x. entry_of c c.threads x h ≡ Some s.made) (sym same) s.entry_is)) k

      before : (b : List ℕ) → Learn b ≡ cmd → are_followed c.threads c.locks None h ≡ true
      before b same = nothing_owed b (subst (λ x. next_command c h ≡ Some x) (sym same) q) o

      third : (set : ℕ) (x : Option ℕ) → break_of set x ≡ Some cmd → Owes c (s.made ∷ h)
      third set None k = absurd (cc)
      third set (Some t) k =
          let same : Break set record { 0 = t } ≡ cmd = cc in
          let is : entry.Break set record { 0 = t } ≡ s.made = made_break set record { 0 = t } s.made (subst (λ x. entry_of c c.threads x h ≡ Some s.made) (sym same) s.entry_is) in
          subst (λ (e : Entry). Owes c (e ∷ h)) is (inl (breaks_owe set record { 0 = t } (subst (λ x. next_command c h ≡ Some x) (sym same) q) o))

      second : unknown_cycle c h ≡ None → (x : Option (List ℕ)) → unlearnt_starvation c h ≡ x → learn_or x (next_break c.threads c.locks h) ≡ Some cmd → Owes c (s.made ∷ h)
      second none (Some b) e k = let same : Learn b ≡ cmd = cc in learnt b same (inr (starvation_owes b none e (before b same)))
      second none None e k = third (greatest_stuck c.threads c.locks h) (choice (greatest_stuck c.threads c.locks h) c.locks h c.threads) k

      first : (x : Option (List ℕ)) → unknown_cycle c h ≡ x → learn_or x (next_way_out c h) ≡ Some cmd → Owes c (s.made ∷ h)
      first (Some b) e k = let same : Learn b ≡ cmd = cc in learnt b same (inl (cycle_owes b (unknown c h legal few cap b e).0 (before b same)))
      first None e k = second e (unlearnt_starvation c h) refl k

-- after a settle nothing is owed
pub settle_followed : (c : Constants) → c.threads ≤ 32 → length c.loaded + 16 ≤ c.cap → (h : List Entry) → Legal c h → are_followed c.threads c.locks None h ≡ true → are_followed c.threads c.locks None (settled c h) ≡ true
settle_followed c few cap h legal k = go kept
  where
    kept : Legal c (settled c h) × Owes c (settled c h)
    kept =
        next_keeps c few cap (λ g. Legal c g × Owes c g)
        (λ g cmd q s w. ((s.legal, w.0), step_owes c g w.0 few cap cmd q s w.1))
        h legal (legal, inl k)

    go : Legal c (settled c h) × Owes c (settled c h) → are_followed c.threads c.locks None (settled c h) ≡ true
    go (l, inl q) = q
    go (l, inr w) = absurd (let n : None ≡ Some (Break w.set w.thread) = sym (settled_law c h legal few cap) ∙ w.next in cc)
