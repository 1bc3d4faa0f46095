-- A history that fits is a walk exactly where each thread's own entries are.
use Rattle.std.proofs.Common.{◌≡◌, ℕ, ◌==◌, Bool, true, false, if◌then◌else◌, List, [], ◌∷◌, subst, refl, sym, ap, ◌∙◌, Option, Some, None, eq-eqb, arith, ◌⊎◌, inl, inr}
use Rattle.std.specs.Prelude.{⊤}
use Rattle.std.proofs.lemmas.Bool.{eqb-true}
use Rattle.dim_base.specs.declared.Tid.{Tid}
use Rattle.dim_base.specs.declared.Lid.{Lid}
use Rattle.dim_asm.specs.Code.{Code}
use Rattle.dim_rag.specs.declared.entry.Entry.{Entry}
use Rattle.dim_rag.specs.declared.entry.Entry.TheVariants.{Go, Yield, Got, Free, Took, Miss, End, Break, Learn}
use Rattle.dim_rag.specs.declared.entry.Why.TheVariants.{Done, Trapped, Spent}
use Rattle.dim_rag.specs.declared.entry.Mode.{Mode}
use Rattle.dim_rag.specs.declared.entry.Mode.TheVariants as modes
use Rattle.dim_rag.specs.History.{mode}
use Rattle.dim_rag.specs.Fits.{Fits}
use Rattle.dim_rag.specs.Tables.{caller_of}
use Rattle.dim_vm.specs.declared.state.State.{State}
use Rattle.dim_vm.specs.declared.state.State.TheVariants.{Running, Waits, Yields, Ended}
use Rattle.dim_vm.specs.Own.{state_by, IsModeOf}
use Rattle.dim_vm.specs.Configuration.{led}
use Rattle.dim_vm.specs.Fitting.{FitsEntry, FitsOwn, MayEnd, OwnWalk}
use Rattle.dim_vm.specs.Laws.{SameButBroken, OwnWalksLaw}
use Rattle.dim_vm.specs.Walks.{is_by, own_of, configuration, FitsCaller, IsAwake, Walks, WokenIn, EndsWoken, AllEndWoken}
use Rattle.dim_vm.proofs.Leads.{fits_more}
use Rattle.dim_vm.proofs.OwnModes.{own_mode}
use Rattle.dim_vm.proofs.Stands.{IsAsking, asking_led, state_led, mode_own}

-- one that stands so by its own entries, in these modes by its own and by all, may end there where it runs or yields by all
may_by : (s : State) (m n : Mode) → IsModeOf s m → SameButBroken m n → (n ≡ modes.Running) ⊎ ((l : Lid) × (place : ℕ) × (n ≡ modes.Yielding l place)) → MayEnd ⊤ s
may_by Running m n i s h = tt
may_by (Yields l) m n i s h = tt
may_by (Waits l) (modes.Allowed k birth) (modes.Allowed j born) i s (inl e) = cc
may_by (Waits l) (modes.Allowed k birth) (modes.Allowed j born) i s (inr e) = let x = e.2 in cc
may_by (Waits l) (modes.Allowed k birth) modes.Running i s h = absurd s
may_by (Waits l) (modes.Allowed k birth) (modes.Yielding j there) i s h = absurd s
may_by (Waits l) (modes.Allowed k birth) (modes.Ended there) i s h = absurd s
may_by (Waits l) modes.Running n i s h = absurd i
may_by (Waits l) (modes.Yielding k place) n i s h = absurd i
may_by (Waits l) (modes.Ended place) n i s h = absurd i
may_by (Ended why) (modes.Ended place) (modes.Ended there) i s (inl e) = cc
may_by (Ended why) (modes.Ended place) (modes.Ended there) i s (inr e) = let x = e.2 in cc
may_by (Ended why) (modes.Ended place) modes.Running i s h = absurd s
may_by (Ended why) (modes.Ended place) (modes.Allowed j born) i s h = absurd s
may_by (Ended why) (modes.Ended place) (modes.Yielding j there) i s h = absurd s
may_by (Ended why) modes.Running n i s h = absurd i
may_by (Ended why) (modes.Allowed k birth) n i s h = absurd i
may_by (Ended why) (modes.Yielding k place) n i s h = absurd i

runs_by : (m n : Mode) → IsModeOf Running m → SameButBroken m n → n ≡ modes.Running
runs_by modes.Running modes.Running i s = refl
runs_by modes.Running (modes.Allowed l born) i s = absurd s
runs_by modes.Running (modes.Yielding l there) i s = absurd s
runs_by modes.Running (modes.Ended there) i s = absurd s
runs_by (modes.Allowed l birth) n i s = absurd i
runs_by (modes.Yielding l place) n i s = absurd i
runs_by (modes.Ended place) n i s = absurd i

yields_not_runs : (l : Lid) (m n : Mode) → IsModeOf (Yields l) m → SameButBroken m n → n ≡ modes.Running → ⊥
yields_not_runs l (modes.Yielding k place) modes.Running i s e = s
yields_not_runs l (modes.Yielding k place) (modes.Allowed j born) i s e = cc
yields_not_runs l (modes.Yielding k place) (modes.Yielding j there) i s e = cc
yields_not_runs l (modes.Yielding k place) (modes.Ended there) i s e = s
yields_not_runs l modes.Running n i s e = i
yields_not_runs l (modes.Allowed k birth) n i s e = i
yields_not_runs l (modes.Ended place) n i s e = i

awake_cases : (p : Code) (t : Tid) (h : List Entry) → IsAwake p t h → (mode t.0 h ≡ modes.Running) ⊎ ((l : Lid) × (place : ℕ) × (mode t.0 h ≡ modes.Yielding l place))
awake_cases p t h (inl e) = inl e
awake_cases p t h (inr w) = inr w.yields

module _ (p : Code) (fuel : ℕ) where
  -- what may end by all entries may end by its own, and the other way round where it is woken
  may_end : (t : Tid) (h : List Entry) → Fits h → OwnWalk p t fuel (own_of t h) → IsAwake p t h → MayEnd ⊤ (led p t fuel (own_of t h)).state
  may_end t h f w a =
      subst (MayEnd ⊤) (sym (state_led p t fuel (own_of t h) w))
      (may_by (state_by (own_of t h)) (mode t.0 (own_of t h)) (mode t.0 h) (mode_own p t fuel (own_of t h) w) (own_mode t h f) (awake_cases p t h a))

  awake_by : (t : Tid) (h : List Entry) (s : State) → state_by (own_of t h) ≡ s → Fits h → OwnWalk p t fuel (own_of t h) → WokenIn p t h s → MayEnd ⊤ s → IsAwake p t h
  awake_by t h Running e f w x m =
      inl (runs_by (mode t.0 (own_of t h)) (mode t.0 h) (subst (λ s. IsModeOf s (mode t.0 (own_of t h))) e (mode_own p t fuel (own_of t h) w)) (own_mode t h f))
  awake_by t h (Yields l) e f w x m = inr x
  awake_by t h (Waits l) e f w x m = absurd m
  awake_by t h (Ended why) e f w x m = absurd m

  awake : (t : Tid) (h : List Entry) → Fits h → OwnWalk p t fuel (own_of t h) → WokenIn p t h (state_by (own_of t h)) → MayEnd ⊤ (led p t fuel (own_of t h)).state → IsAwake p t h
  awake t h f w x m = awake_by t h (state_by (own_of t h)) refl f w x (subst (MayEnd ⊤) (state_led p t fuel (own_of t h) w) m)

  -- the own entries of t behind one, and that one, if it is its own
  behind : (t : Tid) (b : Bool) (e : Entry) (h : List Entry) → OwnWalk p t fuel (if b then e ∷ own_of t h else own_of t h) → OwnWalk p t fuel (own_of t h)
  behind t true e h w = w.1
  behind t false e h w = w

  first : (u : Tid) (e : Entry) (h : List Entry) → OwnWalk p u fuel (if u.0 == u.0 then e ∷ own_of u h else own_of u h) → FitsOwn p (configuration p fuel u h) e
  first u e h w =
      let same : (u.0 == u.0) ≡ true = eq-eqb u.0 u.0 refl in
      (subst (λ (b : Bool). OwnWalk p u fuel (if b then e ∷ own_of u h else own_of u h)) same w).0

  fits_caller : (e : Entry) (h : List Entry) → Fits h → ((t : Tid) → OwnWalk p t fuel (own_of t (e ∷ h))) → EndsWoken p h e → FitsCaller p fuel h e (caller_of e)
  fits_caller (Go u l s) h f w x = let m = first u (Go u l s) h (w u) in record { going = m.going; by = m.by; next = m.next }
  fits_caller (Yield u l s sig births) h f w x = let m = first u (Yield u l s sig births) h (w u) in record { going = m.going; by = m.by; next = m.next }
  fits_caller (Got u l) h f w x = let m = first u (Got u l) h (w u) in record { going = m.going; by = m.by; next = m.next }
  fits_caller (Free u l) h f w x = let m = first u (Free u l) h (w u) in record { going = m.going; by = m.by; next = m.next }
  fits_caller (Took u l s) h f w x = let m = first u (Took u l s) h (w u) in record { going = m.going; by = m.by; next = m.next }
  fits_caller (Miss u l s why) h f w x = let m = first u (Miss u l s why) h (w u) in record { going = m.going; by = m.by; next = m.next }
  fits_caller (End u Done) h f w x = let m = first u (End u Done) h (w u) in record { going = m.going; by = m.by; next = m.next }
  fits_caller (End u (Trapped k)) h f w x = let m = first u (End u (Trapped k)) h (w u) in record { going = m.going; by = m.by; next = m.next }
  fits_caller (End u Spent) h f w x =
      fits_more p (MayEnd ⊤ (configuration p fuel u h).state) (IsAwake p u h) (configuration p fuel u h) (End u Spent)
      (awake u h f (behind u (u.0 == u.0) (End u Spent) h (w u)) x)
      (first u (End u Spent) h (w u))
  fits_caller (Break set u) h f w x = tt
  fits_caller (Learn births) h f w x = tt

  all_walks : (h : List Entry) → Fits h → ((t : Tid) → OwnWalk p t fuel (own_of t h)) → AllEndWoken p h → Walks p fuel h
  all_walks [] f w x = tt
  all_walks (e ∷ h) f w x = (fits_caller e h f.1 w x.0, all_walks h f.1 (λ t. behind t (is_by t (caller_of e)) e h (w t)) x.1)

  -- the other way round
  fits_it : (o : Option Tid) (e : Entry) (h : List Entry) (t : Tid) → FitsCaller p fuel h e o → is_by t o ≡ true → FitsEntry p (IsAwake p t h) (configuration p fuel t h) e
  fits_it None e h t w b = cc
  fits_it (Some u) e h t w b =
      let same : u ≡ t = ap (λ n. record { 0 = n }) (eqb-true u.0 t.0 b) in
      subst (λ v. FitsEntry p (IsAwake p v h) (configuration p fuel v h) e) same w

  own_behind : (e : Entry) (h : List Entry) (t : Tid) (b : Bool) → is_by t (caller_of e) ≡ b → Fits h → FitsCaller p fuel h e (caller_of e) → OwnWalk p t fuel (own_of t h) → OwnWalk p t fuel (if b then e ∷ own_of t h else own_of t h)
  own_behind e h t false e_by f w r = r
  own_behind e h t true e_by f w r =
      (fits_more p (IsAwake p t h) (MayEnd ⊤ (configuration p fuel t h).state) (configuration p fuel t h) e (may_end t h f r) (fits_it (caller_of e) e h t w e_by), r)

  all_own : (h : List Entry) → Fits h → Walks p fuel h → (t : Tid) → OwnWalk p t fuel (own_of t h)
  all_own [] f w t = tt
  all_own (e ∷ h) f w t = own_behind e h t (is_by t (caller_of e)) refl f.1 w.0 (all_own h f.1 w.1 t)

  woken_by : (t : Tid) (h : List Entry) (s : State) → state_by (own_of t h) ≡ s → Fits h → OwnWalk p t fuel (own_of t h) → FitsEntry p (IsAwake p t h) (configuration p fuel t h) (End t Spent) → WokenIn p t h s
  woken_by t h Running e f r m = tt
  woken_by t h (Waits l) e f r m = tt
  woken_by t h (Ended why) e f r m = tt
  woken_by t h (Yields l) e f r m =
      let at : (configuration p fuel t h).state ≡ Yields l = state_led p t fuel (own_of t h) r ∙ e in
      let a : IsAsking p (configuration p fuel t h) (own_of t h) (Yields l) = subst (IsAsking p (configuration p fuel t h) (own_of t h)) at (asking_led p t fuel (own_of t h) r) in
      elim m.next [
        | inl none ↦ absurd (omega (arith, a.0, none))
        | inr one ↦
            elim one.1 [
              | inl runs ↦ absurd (yields_not_runs l (mode t.0 (own_of t h)) (mode t.0 h) (subst (λ s. IsModeOf s (mode t.0 (own_of t h))) e (mode_own p t fuel (own_of t h) r)) (own_mode t h f) runs)
              | inr woken ↦ woken
            ]
      ]

  ends_woken : (e : Entry) (h : List Entry) → Fits h → Walks p fuel h → FitsCaller p fuel h e (caller_of e) → EndsWoken p h e
  ends_woken (End u Spent) h f w m = woken_by u h (state_by (own_of u h)) refl f (all_own h f w u) m
  ends_woken (End u Done) h f w m = tt
  ends_woken (End u (Trapped k)) h f w m = tt
  ends_woken (Go u l s) h f w m = tt
  ends_woken (Yield u l s sig births) h f w m = tt
  ends_woken (Got u l) h f w m = tt
  ends_woken (Free u l) h f w m = tt
  ends_woken (Took u l s) h f w m = tt
  ends_woken (Miss u l s why) h f w m = tt
  ends_woken (Break set u) h f w m = tt
  ends_woken (Learn births) h f w m = tt

  all_woken : (h : List Entry) → Fits h → Walks p fuel h → AllEndWoken p h
  all_woken [] f w = tt
  all_woken (e ∷ h) f w = (ends_woken e h f.1 w.1 w.0, all_woken h f.1 w.1)

pub own_walks : OwnWalksLaw
own_walks = record { walks = all_walks; own = all_own; woken = all_woken }
