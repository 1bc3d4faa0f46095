-- A machine asks what it may ask.
use Rattle.std.proofs.Common.{◌≡◌, ◌≢◌, ◌<◌, ◌≤◌, ◌⊎◌, inl, inr, Bool, true, false, refl, ap, sym, subst, ◌∙◌, arith}
use Rattle.std.proofs.lemmas.Bool.{cases_lt}
use Rattle.dim_base.specs.declared.Tid.{Tid}
use Rattle.dim_base.specs.declared.Lid.{Lid}
use Rattle.dim_asm.specs.Code.{Code}
use Rattle.dim_rag.specs.declared.entry.Why.{Why}
use Rattle.dim_rag.specs.declared.entry.Why.TheVariants.{Spent}
use Rattle.dim_rag.specs.declared.command.Command.TheVariants as cmd
use Rattle.dim_rag.specs.declared.command.Reply.TheVariants as reply
use Rattle.dim_rag.specs.declared.entry.Mode.TheVariants as modes
use Rattle.dim_rag.specs.History.{past, count, mode}
use Rattle.dim_rag.specs.Fits.{YieldsOn, IsAllowedOn}
use Rattle.dim_vm.specs.declared.step.Step.TheVariants as step
use Rattle.dim_vm.specs.declared.state.State.{State}
use Rattle.dim_vm.specs.declared.state.State.TheVariants.{Running, Waits, Yields, Ended}
use Rattle.dim_vm.specs.Frames.{stack_of}
use Rattle.dim_vm.specs.Table.{Ends, Wants, Retakes, Frees, times}
use Rattle.dim_vm.specs.Steps.{gone, told_by, IsFree, IsAgain, IsHeld}
use Rattle.dim_vm.specs.Own.{IsYieldingOn}
use Rattle.dim_vm.specs.Door.{Seen, times_in, Lacks, Holds, HoldsFew, MayAskFor, MayAsk, IsReplyTo, IsAcquired, Runs, told}
use Rattle.dim_vm.specs.Configuration.{Configuration, next_of, is_ended}
use Rattle.dim_vm.specs.Fitting.{FitsMachine, MayEnd, IsWanting}
use Rattle.dim_vm.specs.Turns.{request_of, attempt_of, Faces, IsReady, acquired}
use Rattle.dim_vm.proofs.Stands.{holds_is, runs_by, waits_by, yields_by, asking}

module _ (p : Code) (c : Configuration) (z : Seen) where
  -- a thread runs where no lock to be taken is next
  pub runs : (s : State) → c.state ≡ s → FitsMachine p c z.own → is_ended c.state ≡ false → ((l : Lid) → IsWanting l (next_of p c) → ⊥) → c.state ≡ Running
  runs Running e f going never = e
  runs (Waits l) e f going never = absurd (never l (asking p c z.own f (Waits l) e).1)
  runs (Yields l) e f going never = absurd (never l (asking p c z.own f (Yields l) e).1)
  runs (Ended why) e f going never = let x : true ≡ false = ap is_ended (sym e) ∙ going in cc

  -- what its own entries say, as the door sees them
  pub times_is : (l : Lid) → FitsMachine p c z.own → z.thread ≡ c.thread → l.0 < 256 → times_in z l ≡ times c.holds l.0
  times_is l f t low = ap (λ (u : Tid). count u.0 l.0 (past z.own)) t ∙ sym (holds_is p c z.own f l.0 low)

  -- a lock that isn't held, that is, and that may be taken once more
  pub lacks : (l : Lid) → FitsMachine p c z.own → z.thread ≡ c.thread → l.0 < 256 → IsFree (times c.holds l.0) → Lacks z l
  lacks l f t low h = times_is l f t low ∙ h

  pub has : (l : Lid) → FitsMachine p c z.own → z.thread ≡ c.thread → l.0 < 256 → IsHeld (times c.holds l.0) → Holds z l
  has l f t low h = let e : times_in z l ≡ times c.holds l.0 = times_is l f t low in let k : 1 ≤ times c.holds l.0 = h in omega (arith, e, k)

  has_few : (l : Lid) → FitsMachine p c z.own → z.thread ≡ c.thread → l.0 < 256 → IsAgain (times c.holds l.0) → HoldsFew z l
  has_few l f t low h =
      let e : times_in z l ≡ times c.holds l.0 = times_is l f t low in
      let k : times c.holds l.0 < 255 = h.1 in
      (has l f t low h.0, omega (arith, e, k))

  runs_in : FitsMachine p c z.own → z.thread ≡ c.thread → c.state ≡ Running → Runs z
  runs_in f t e = subst (λ (u : Tid). mode u.0 (past z.own) ≡ modes.Running) (sym t) (runs_by p c z.own f e)

  -- Free
  free_runs : (l : Lid) (drops : Bool) → Faces p c z (step.Frees l drops) → c.state ≡ Running
  free_runs l drops f = runs c.state refl f.fits f.going (λ m w. let x : Frees l (gone drops c.context) ≡ Wants m w.0 = sym f.shows.is ∙ w.1 in cc)

  pub may_free : (l : Lid) (drops : Bool) → Faces p c z (step.Frees l drops) → MayAsk z (cmd.Release l)
  may_free l drops f =
      (omega (arith, f.locks, f.found.in_range), has l f.fits f.thread f.found.low f.found.held, runs_in f.fits f.thread (free_runs l drops f))

  -- a Took of a lock that is held
  retake_runs : (l : Lid) (drops : Bool) → Faces p c z (step.Retakes l drops) → c.state ≡ Running
  retake_runs l drops f = runs c.state refl f.fits f.going (λ m w. let x : Retakes l (gone drops c.context) ≡ Wants m w.0 = sym f.shows.is ∙ w.1 in cc)

  pub may_retake : (l : Lid) (drops : Bool) → Faces p c z (step.Retakes l drops) → MayAsk z (request_of p c l)
  may_retake l drops f =
      (omega (arith, f.locks, f.found.in_range), inr (has_few l f.fits f.thread f.found.low f.found.held, runs_in f.fits f.thread (retake_runs l drops f)))

  pub has_retaken : (l : Lid) (drops : Bool) → Faces p c z (step.Retakes l drops) → Holds z l
  has_retaken l drops f = has l f.fits f.thread f.found.low f.found.held.0

  -- Took and Miss
  try_runs : (l : Lid) → Faces p c z (step.Tries l) → c.state ≡ Running
  try_runs l f = runs c.state refl f.fits f.going (λ m w. let x : told_by c.context (step.Tries l) c.context ≡ Wants m w.0 = sym f.shows.is ∙ w.1 in cc)

  pub may_try : (l : Lid) → Faces p c z (step.Tries l) → MayAsk z (attempt_of p c l)
  may_try l f =
      (omega (arith, f.locks, f.found.0.in_range), may_take (cases_lt 0 (times c.holds l.0)), runs_in f.fits f.thread (try_runs l f))
    where
      may_take : (0 < times c.holds l.0) ⊎ (times c.holds l.0 ≤ 0) → Lacks z l ⊎ HoldsFew z l
      may_take (inl held) = inr (has_few l f.fits f.thread f.found.0.low (omega (arith, held), f.found.0.held))
      may_take (inr free) = inl (lacks l f.fits f.thread f.found.0.low (omega (arith, free)))

  -- Go and Yield
  same_lock : (l m : Lid) (drops : Bool) → Faces p c z (step.Wants l drops) → IsWanting m (next_of p c) → m ≡ l
  same_lock l m drops f w = let x : Wants m w.0 ≡ Wants l (gone drops c.context) = sym w.1 ∙ f.shows.is in cc

  free_to_ask : (l : Lid) (drops : Bool) (s : State) (woken : Type 0) → c.state ≡ s → Faces p c z (step.Wants l drops) → IsReady s z woken
      → MayAskFor z l (stack_of p c.context.frames)
  free_to_ask l drops Running woken e f free = inl (runs_in f.fits f.thread e)
  free_to_ask l drops (Yields m) woken e f free =
      let a = asking p c z.own f.fits (Yields m) e in
      let there : YieldsOn z.thread.0 m (stack_of p c.context.frames) (past z.own) = subst (λ (u : Tid). YieldsOn u.0 m (stack_of p c.context.frames) (past z.own)) (sym f.thread) a.2 in
      inr (free.0, subst (λ x. YieldsOn z.thread.0 x (stack_of p c.context.frames) (past z.own)) (same_lock l m drops f a.1) there)
  free_to_ask l drops (Waits m) woken e f free = absurd free
  free_to_ask l drops (Ended why) woken e f free = absurd free

  pub may_wish : (l : Lid) (drops : Bool) (woken : Type 0) → Faces p c z (step.Wants l drops) → IsReady c.state z woken → MayAsk z (request_of p c l)
  may_wish l drops woken f free =
      (omega (arith, f.locks, f.found.in_range), inl (lacks l f.fits f.thread f.found.low f.found.held, free_to_ask l drops c.state woken refl f free))

  pub may_spend : (s : State) (woken : Type 0) → c.state ≡ s → FitsMachine p c z.own → z.thread ≡ c.thread → IsReady s z woken → MayAsk z (cmd.End Spent)
  may_spend Running woken e f t free = inl (runs_in f t e)
  may_spend (Yields l) woken e f t free = inr free.0
  may_spend (Waits l) woken e f t free = absurd free
  may_spend (Ended why) woken e f t free = absurd free

  -- polls
  pub may_poll : (l : Lid) (drops : Bool) (s : State) → c.state ≡ s → Faces p c z (step.Wants l drops) → c.state ≢ Running → MayAsk z (cmd.Acquire l)
  may_poll l drops Running e f asks = absurd (asks e)
  may_poll l drops (Waits m) e f asks =
      let here : m ≡ l = same_lock l m drops f (asking p c z.own f.fits (Waits m) e).1 in
      let there : IsAllowedOn z.thread.0 m (past z.own) = subst (λ (u : Tid). IsAllowedOn u.0 m (past z.own)) (sym f.thread) (waits_by p c z.own f.fits m e) in
      (omega (arith, f.locks, f.found.in_range), inl (subst (λ x. IsAllowedOn z.thread.0 x (past z.own)) here there))
  may_poll l drops (Yields m) e f asks =
      let here : m ≡ l = same_lock l m drops f (asking p c z.own f.fits (Yields m) e).1 in
      let there : IsYieldingOn z.thread.0 m (past z.own) = subst (λ (u : Tid). IsYieldingOn u.0 m (past z.own)) (sym f.thread) (yields_by p c z.own f.fits m e) in
      (omega (arith, f.locks, f.found.in_range), inr (subst (λ x. IsYieldingOn z.thread.0 x (past z.own)) here there))
  may_poll l drops (Ended why) e f asks = let x : true ≡ false = ap is_ended (sym e) ∙ f.going in cc

  -- one that was told Woken yields
  pub woken_free : (s : State) (l : Lid) (woken : Type 0) → c.state ≡ s → FitsMachine p c z.own → z.thread ≡ c.thread → is_ended c.state ≡ false → c.state ≢ Running → IsReplyTo z (cmd.Acquire l) reply.Woken → woken
      → IsReady s (told z (cmd.Acquire l) reply.Woken) woken
  woken_free Running l woken e f t going asks may w = absurd (asks e)
  woken_free (Yields m) l woken e f t going asks may w = (refl, w)
  woken_free (Waits m) l woken e f t going asks may w =
      let there : IsAllowedOn z.thread.0 m (past z.own) = subst (λ (u : Tid). IsAllowedOn u.0 m (past z.own)) (sym t) (waits_by p c z.own f m e) in
      absurd (subst (λ x. IsAcquired x reply.Woken) there.1 may)
  woken_free (Ended why) l woken e f t going asks may w = let x : true ≡ false = ap is_ended (sym e) ∙ going in cc

  -- the ends of a turn
  pub runs_end : (why : Why) → Faces p c z (step.Ends why) → c.state ≡ Running
  runs_end why f = runs c.state refl f.fits f.going (λ m w. let x : Ends why ≡ Wants m w.0 = sym f.shows.is ∙ w.1 in cc)

  pub may_finish : (why : Why) → Faces p c z (step.Ends why) → MayAsk z (cmd.End why)
  may_finish why f = inl (runs_in f.fits f.thread (runs_end why f))

  -- no units are left
  pub empty_runs : (s : State) → c.state ≡ s → FitsMachine p c z.own → is_ended c.state ≡ false → c.units ≡ 0 → c.state ≡ Running
  empty_runs Running e f going none = e
  empty_runs (Waits l) e f going none = let a = asking p c z.own f (Waits l) e in absurd (omega (arith, a.0, none))
  empty_runs (Yields l) e f going none = let a = asking p c z.own f (Yields l) e in absurd (omega (arith, a.0, none))
  empty_runs (Ended why) e f going none = let x : true ≡ false = ap is_ended (sym e) ∙ going in cc

  pub may_end_empty : FitsMachine p c z.own → z.thread ≡ c.thread → is_ended c.state ≡ false → c.units ≡ 0 → MayAsk z (cmd.End Spent)
  may_end_empty f t going none = inl (runs_in f t (empty_runs c.state refl f going none))

  -- the End of a thread that lacks a unit for a request
  pub may_end : (s : State) (woken : Type 0) → IsReady s z woken → MayEnd woken s
  may_end Running woken free = tt
  may_end (Yields l) woken free = free.1
  may_end (Waits l) woken free = absurd free
  may_end (Ended why) woken free = absurd free

-- one that is free stays so where what is woken stays so
pub free_more : (s : State) (z : Seen) (A B : Type 0) → (A → B) → IsReady s z A → IsReady s z B
free_more Running z A B f free = tt
free_more (Yields l) z A B f free = (free.0, f free.1)
free_more (Waits l) z A B f free = free
free_more (Ended why) z A B f free = free

-- the same after the poll
pub poll_free : (p : Code) (c c1 : Configuration) (z z1 : Seen) (woken : Type 0) (l : Lid) (drops : Bool) → FitsMachine p c z.own → z.thread ≡ c.thread → is_ended c.state ≡ false → c.state ≢ Running
    → IsReplyTo z (cmd.Acquire l) reply.Woken → c1 ≡ acquired l drops c reply.Woken → z1 ≡ told z (cmd.Acquire l) reply.Woken → woken → IsReady c1.state z1 woken
poll_free p c c1 z z1 woken l drops f t going asks may at seen w =
    subst (λ (x : Configuration). IsReady x.state z1 woken) (sym at) (subst (λ y. IsReady c.state y woken) (sym seen) (woken_free p c z c.state l woken refl f t going asks may w))
