-- How a thread stands to which its own entries lead.
use Rattle.std.proofs.Common.{◌≡◌, ℕ, suc, ◌-◌, ◌<◌, ◌≤◌, ◌==◌, ◌&&◌, Bool, if◌then◌else◌, List, [], ◌∷◌, length, refl, ap, sym, subst, ◌∙◌, inl, inr, arith, set, get_or, Some}
use Rattle.std.specs.Prelude.{⊤}
use Rattle.std.proofs.lemmas.List.{get_or_past, length-set, length-replicate, get_or-replicate, get_or-set_same, get_or-set_other}
use Rattle.std.proofs.lemmas.Bool.{cases_Bool, cases_lt, eqb-true, eqb-false}
use Rattle.dim_base.specs.declared.Tid.{Tid}
use Rattle.dim_base.specs.declared.Lid.{Lid}
use Rattle.dim_stack.specs.declared.Frame.{Frame}
use Rattle.dim_asm.specs.Code.{Code}
use Rattle.dim_rag.specs.declared.entry.Entry.{Entry}
use Rattle.dim_rag.specs.declared.entry.Entry.TheVariants.{Go, Yield, Got, Free, Took, Miss, End, Break, Learn}
use Rattle.dim_rag.specs.declared.entry.Mode.{Mode}
use Rattle.dim_rag.specs.declared.entry.Mode.TheVariants as modes
use Rattle.dim_rag.specs.History.{past, count, mode, mode_by, latest_wish}
use Rattle.dim_rag.specs.Fits.{YieldsOn, IsAllowedOn}
use Rattle.dim_rag.specs.Tables.{thread_of}
use Rattle.dim_vm.specs.declared.state.State.{State}
use Rattle.dim_vm.specs.declared.state.State.TheVariants.{Running, Waits, Yields, Ended}
use Rattle.dim_vm.specs.Frames.{stack_of}
use Rattle.dim_vm.specs.Own.{state_by, IsModeOf, IsYieldingOn}
use Rattle.dim_vm.specs.Configuration.{Configuration, next_of, rested_in, led}
use Rattle.dim_vm.specs.Fitting.{IsWanting, OwnWalk, FitsMachine}
use Rattle.dim_vm.proofs.Words.{own_latest, same_tid}

-- what a thread has that stands so
abbrev pub IsAsking : Code → Configuration → List Entry → State → Type 0
IsAsking p c h Running = ⊤
IsAsking p c h (Waits l) = (1 ≤ c.units) × IsWanting l (next_of p c)
IsAsking p c h (Yields l) = (1 ≤ c.units) × IsWanting l (next_of p c) × YieldsOn c.thread.0 l (stack_of p c.context.frames) h
IsAsking p c h (Ended why) = ⊤

module _ (p : Code) (t : Tid) (fuel : ℕ) where
  pub thread_led : (h : List Entry) → OwnWalk p t fuel h → (led p t fuel h).thread ≡ t
  thread_led [] w = refl
  thread_led (Go u l s ∷ h) w = thread_led h w.1
  thread_led (Yield u l s sig births ∷ h) w = thread_led h w.1
  thread_led (Got u l ∷ h) w = thread_led h w.1
  thread_led (Free u l ∷ h) w = thread_led h w.1
  thread_led (Took u l s ∷ h) w = thread_led h w.1
  thread_led (Miss u l s why ∷ h) w = thread_led h w.1
  thread_led (End u why ∷ h) w = thread_led h w.1
  thread_led (Break set u ∷ h) w = absurd w.0.next
  thread_led (Learn births ∷ h) w = absurd w.0.next

  -- the newest entry is the thread's
  by_own : (e : Entry) (h : List Entry) → OwnWalk p t fuel (e ∷ h) → thread_of e ≡ Some t
  by_own e h w = w.0.by ∙ ap Some (thread_led h w.1)

  mode_is_newest : (h : List Entry) → OwnWalk p t fuel h → mode t.0 h ≡ mode_by h
  mode_is_newest [] w = refl
  mode_is_newest (e ∷ h) w = ap mode_by (own_latest t e h (by_own e h w))

  mode_by_state : (h : List Entry) → OwnWalk p t fuel h → IsModeOf (state_by h) (mode_by h)
  mode_by_state [] w = tt
  mode_by_state (Go u l s ∷ h) w = refl
  mode_by_state (Yield u l s sig births ∷ h) w = refl
  mode_by_state (Got u l ∷ h) w = tt
  mode_by_state (Free u l ∷ h) w = tt
  mode_by_state (Took u l s ∷ h) w = tt
  mode_by_state (Miss u l s why ∷ h) w = tt
  mode_by_state (End u why ∷ h) w = tt
  mode_by_state (Break set u ∷ h) w = absurd w.0.next
  mode_by_state (Learn births ∷ h) w = absurd w.0.next

  -- the mode by a thread's own entries is told by the newest
  pub mode_own : (h : List Entry) → OwnWalk p t fuel h → IsModeOf (state_by h) (mode t.0 h)
  mode_own h w = subst (IsModeOf (state_by h)) (sym (mode_is_newest h w)) (mode_by_state h w)

  pub state_led : (h : List Entry) → OwnWalk p t fuel h → (led p t fuel h).state ≡ state_by h
  state_led [] w = refl
  state_led (Go u l s ∷ h) w = refl
  state_led (Yield u l s sig births ∷ h) w = refl
  state_led (Got u l ∷ h) w = refl
  state_led (Free u l ∷ h) w = refl
  state_led (Took u l s ∷ h) w = refl
  state_led (Miss u l s why ∷ h) w = refl
  state_led (End u why ∷ h) w = refl
  state_led (Break set u ∷ h) w = absurd w.0.next
  state_led (Learn births ∷ h) w = absurd w.0.next

  wish_led : (u : Tid) (l : Lid) (s : List Frame) (sig : ℕ) (births : List ℕ) (h : List Entry) → OwnWalk p t fuel (Yield u l s sig births ∷ h) → YieldsOn t.0 l s (Yield u l s sig births ∷ h)
  wish_led u l s sig births h w = record {
    place = length h;
    births = births;
    mode_is = mode_is_newest (Yield u l s sig births ∷ h) w;
    wish_is = ap (λ (b : Bool). if b then Some (record { lock = l; stack = s; births = births; place = length h }) else latest_wish t.0 h) (same_tid u t (by_own (Yield u l s sig births) h w));
  }

  pub asking_led : (h : List Entry) → OwnWalk p t fuel h → IsAsking p (led p t fuel h) h (led p t fuel h).state
  asking_led [] w = tt
  asking_led (Go u l s ∷ h) w = (omega (arith, w.0.next.0), w.0.next.2)
  asking_led (Yield u l s sig births ∷ h) w =
      let wish : YieldsOn t.0 l s (Yield u l s sig births ∷ h) = wish_led u l s sig births h w in
      let there : YieldsOn (led p t fuel h).thread.0 l s (Yield u l s sig births ∷ h) = subst (λ (x : Tid). YieldsOn x.0 l s (Yield u l s sig births ∷ h)) (sym (thread_led h w.1)) wish in
      (omega (arith, w.0.next.0), w.0.next.2, subst (λ x. YieldsOn (led p t fuel h).thread.0 l x (Yield u l s sig births ∷ h)) w.0.next.1 there)
  asking_led (Got u l ∷ h) w = tt
  asking_led (Free u l ∷ h) w = tt
  asking_led (Took u l s ∷ h) w = tt
  asking_led (Miss u l s why ∷ h) w = tt
  asking_led (End u why ∷ h) w = tt
  asking_led (Break set u ∷ h) w = absurd w.0.next
  asking_led (Learn births ∷ h) w = absurd w.0.next

  long_led : (h : List Entry) → OwnWalk p t fuel h → length (led p t fuel h).holds ≡ 256
  long_led [] w = length-replicate {A = ℕ} 256 0
  long_led (Go u l s ∷ h) w = long_led h w.1
  long_led (Yield u l s sig births ∷ h) w = long_led h w.1
  long_led (Got u l ∷ h) w = length-set _ l.0 _ ∙ long_led h w.1
  long_led (Free u l ∷ h) w = length-set _ l.0 _ ∙ long_led h w.1
  long_led (Took u l s ∷ h) w = length-set _ l.0 _ ∙ long_led h w.1
  long_led (Miss u l s why ∷ h) w = long_led h w.1
  long_led (End u why ∷ h) w = long_led h w.1
  long_led (Break set u ∷ h) w = absurd w.0.next
  long_led (Learn births ∷ h) w = absurd w.0.next

  -- a count that is written, by that which was there
  set_is : (xs : List ℕ) (m l : ℕ) (f : ℕ → ℕ) (r : ℕ) → length xs ≡ 256 → l < 256 → get_or xs l 0 ≡ r → get_or (set xs m (f (get_or xs m 0))) l 0 ≡ (if m == l then f r else r)
  set_is xs m l f r long low e = elim (cases_Bool (m == l)) [
    | inl q ↦
        let same : m ≡ l = eqb-true m l q in
        let here : get_or (set xs m (f (get_or xs m 0))) m 0 ≡ f (get_or xs m 0) = get_or-set_same xs m (f (get_or xs m 0)) 0 (omega (arith, same, low, long)) in
        ap (λ k. get_or (set xs m (f (get_or xs m 0))) k 0) (sym same) ∙ here ∙ ap f (ap (λ k. get_or xs k 0) same ∙ e) ∙ sym (ap (λ b. if b then f r else r) q)
    | inr q ↦ get_or-set_other xs m l (f (get_or xs m 0)) 0 (λ x. eqb-false m l q (sym x)) ∙ e ∙ sym (ap (λ b. if b then f r else r) q)
  ]

  -- what a word of the thread about a lock makes of a count
  word : (u : Tid) (b : Bool) (x y : ℕ) → Some u ≡ Some t → (if b then x else y) ≡ (if (u.0 == t.0) && b then x else y)
  word u b x y by = sym (ap (λ a. if a && b then x else y) (same_tid u t by))

  -- how often a thread holds a lock is its count
  pub holds_led : (h : List Entry) → OwnWalk p t fuel h → (l : ℕ) → l < 256 → get_or (led p t fuel h).holds l 0 ≡ count t.0 l h
  holds_led [] w l low = get_or-replicate 256 l 0 0 low
  holds_led (Go u m s ∷ h) w l low = holds_led h w.1 l low
  holds_led (Yield u m s sig births ∷ h) w l low = holds_led h w.1 l low
  holds_led (Got u m ∷ h) w l low =
      set_is _ m.0 l (λ n. 1) _ (long_led h w.1) low (holds_led h w.1 l low) ∙ word u (m.0 == l) 1 (count t.0 l h) (by_own (Got u m) h w)
  holds_led (Free u m ∷ h) w l low =
      set_is _ m.0 l (λ n. n - 1) _ (long_led h w.1) low (holds_led h w.1 l low) ∙ word u (m.0 == l) (count t.0 l h - 1) (count t.0 l h) (by_own (Free u m) h w)
  holds_led (Took u m s ∷ h) w l low =
      set_is _ m.0 l suc _ (long_led h w.1) low (holds_led h w.1 l low) ∙ word u (m.0 == l) (suc (count t.0 l h)) (count t.0 l h) (by_own (Took u m s) h w)
  holds_led (Miss u m s why ∷ h) w l low = holds_led h w.1 l low
  holds_led (End u why ∷ h) w l low = holds_led h w.1 l low
  holds_led (Break set u ∷ h) w l low = absurd w.0.next
  holds_led (Learn births ∷ h) w l low = absurd w.0.next

rested_state : (p : Code) (c : Configuration) (s : State) → (rested_in p c s).state ≡ c.state
rested_state p c Running = refl
rested_state p c (Waits l) = refl
rested_state p c (Yields l) = refl
rested_state p c (Ended why) = refl

rested_holds : (p : Code) (c : Configuration) (s : State) → (rested_in p c s).holds ≡ c.holds
rested_holds p c Running = refl
rested_holds p c (Waits l) = refl
rested_holds p c (Yields l) = refl
rested_holds p c (Ended why) = refl

-- a mode that is that of a state
running_mode : (m : Mode) → IsModeOf Running m → m ≡ modes.Running
running_mode modes.Running h = refl
running_mode (modes.Allowed l birth) h = absurd h
running_mode (modes.Yielding l place) h = absurd h
running_mode (modes.Ended place) h = absurd h

waiting_mode : (l : Lid) (m : Mode) → IsModeOf (Waits l) m → (birth : ℕ) × (m ≡ modes.Allowed l birth)
waiting_mode l modes.Running h = absurd h
waiting_mode l (modes.Allowed k birth) h = (birth, ap (λ x. modes.Allowed x birth) h)
waiting_mode l (modes.Yielding k place) h = absurd h
waiting_mode l (modes.Ended place) h = absurd h

yielding_mode : (l : Lid) (m : Mode) → IsModeOf (Yields l) m → (place : ℕ) × (m ≡ modes.Yielding l place)
yielding_mode l modes.Running h = absurd h
yielding_mode l (modes.Allowed k birth) h = absurd h
yielding_mode l (modes.Yielding k place) h = (place, ap (λ x. modes.Yielding x place) h)
yielding_mode l (modes.Ended place) h = absurd h

module _ (p : Code) (c : Configuration) (own : List Entry) (f : FitsMachine p c own) where
  -- how it stands is told by its latest own entry
  pub state_is : c.state ≡ state_by (past own)
  state_is = sym (rested_state p c c.state) ∙ ap (λ x. x.state) (sym f.leads) ∙ state_led p c.thread c.fuel (past own) f.walk

  -- how often it holds a lock is told by its own entries
  pub holds_is : (l : ℕ) → l < 256 → get_or c.holds l 0 ≡ count c.thread.0 l (past own)
  holds_is l low =
      ap (λ xs. get_or xs l 0) (sym (rested_holds p c c.state) ∙ ap (λ x. x.holds) (sym f.leads))
      ∙ holds_led p c.thread c.fuel (past own) f.walk l low

  long : length c.holds ≡ 256
  long = ap (λ (xs : List ℕ). length xs) (sym (rested_holds p c c.state) ∙ ap (λ x. x.holds) (sym f.leads)) ∙ long_led p c.thread c.fuel (past own) f.walk

  -- what it holds it holds by its own entries
  pub held_own : (l : ℕ) → 1 ≤ get_or c.holds l 0 → 1 ≤ count c.thread.0 l (past own)
  held_own l k = elim (cases_lt l 256) [
    | inl low ↦ let e : get_or c.holds l 0 ≡ count c.thread.0 l (past own) = holds_is l low in omega (arith, e, k)
    | inr high ↦ let e : get_or c.holds l 0 ≡ 0 = get_or_past c.holds l 0 (omega (arith, long, high)) in absurd (omega (arith, e, k))
  ]

  mode_is : IsModeOf c.state (mode c.thread.0 (past own))
  mode_is = subst (λ s. IsModeOf s (mode c.thread.0 (past own))) (sym state_is) (mode_own p c.thread c.fuel (past own) f.walk)

  -- its mode, where it stands so
  pub runs_by : c.state ≡ Running → mode c.thread.0 (past own) ≡ modes.Running
  runs_by e = running_mode _ (subst (λ s. IsModeOf s (mode c.thread.0 (past own))) e mode_is)

  pub waits_by : (l : Lid) → c.state ≡ Waits l → IsAllowedOn c.thread.0 l (past own)
  waits_by l e = waiting_mode l _ (subst (λ s. IsModeOf s (mode c.thread.0 (past own))) e mode_is)

  pub yields_by : (l : Lid) → c.state ≡ Yields l → IsYieldingOn c.thread.0 l (past own)
  yields_by l e = yielding_mode l _ (subst (λ s. IsModeOf s (mode c.thread.0 (past own))) e mode_is)

  -- a thread that waits or yields is at the lock that it asked for
  pub asking : (s : State) → c.state ≡ s → IsAsking p c (past own) s
  asking Running e = tt
  asking (Ended why) e = tt
  asking (Waits l) e =
      let here : led p c.thread c.fuel (past own) ≡ c = f.leads ∙ ap (rested_in p c) e in
      let P : Configuration → Type 0 = λ x. IsAsking p x (past own) x.state in
      subst (IsAsking p c (past own)) e (subst P here (asking_led p c.thread c.fuel (past own) f.walk))
  asking (Yields l) e =
      let here : led p c.thread c.fuel (past own) ≡ c = f.leads ∙ ap (rested_in p c) e in
      let P : Configuration → Type 0 = λ x. IsAsking p x (past own) x.state in
      subst (IsAsking p c (past own)) e (subst P here (asking_led p c.thread c.fuel (past own) f.walk))
