-- What a machine is told moves it.
use Rattle.std.proofs.Common.{◌≡◌, ◌≢◌, ◌<◌, ◌≤◌, inl, inr, Bool, false, [], ◌∷◌, ◌++◌, refl, ap, sym, subst, ◌∙◌, arith, Some}
use Rattle.dim_base.specs.declared.Lid.{Lid}
use Rattle.dim_asm.specs.Code.{Code}
use Rattle.dim_rag.specs.declared.entry.Entry.{Entry}
use Rattle.dim_rag.specs.declared.entry.Entry.TheVariants as entry
use Rattle.dim_rag.specs.declared.entry.MissWhy.TheVariants as miss
use Rattle.dim_rag.specs.declared.entry.Why.{Why}
use Rattle.dim_rag.specs.declared.entry.Why.TheVariants.{Done, Trapped, Spent}
use Rattle.dim_rag.specs.declared.command.Command.TheVariants as cmd
use Rattle.dim_rag.specs.declared.command.Reply.{Reply}
use Rattle.dim_rag.specs.declared.command.Reply.TheVariants as reply
use Rattle.dim_vm.specs.declared.step.Step.TheVariants as step
use Rattle.dim_vm.specs.declared.state.State.TheVariants.{Ended}
use Rattle.dim_vm.specs.declared.state.Turn.{Turn}
use Rattle.dim_vm.specs.declared.state.Turn.TheVariants as turn
use Rattle.dim_vm.specs.Frames.{stack_of}
use Rattle.dim_vm.specs.Table.{Plain, Ends, Wants}
use Rattle.dim_vm.specs.Steps.{told_by}
use Rattle.dim_vm.specs.Door.{Seen, times_in, IsReplyTo, told, door_after, IsStop, stops_after, raised, WasStopped}
use Rattle.dim_vm.specs.Configuration.{Configuration, next_of, moved, moved_by, is_ended}
use Rattle.dim_vm.specs.Fitting.{FitsEntry, FitsOwn, FitsNext, FitsMachine, MayEnd}
use Rattle.dim_vm.specs.Moves.{MakesPlain, is_end}
use Rattle.dim_vm.specs.Slice.{place}
use Rattle.dim_vm.specs.Turns.{request_of, attempt_of, Faces, Turned, StopsIf, IsReady, IsStep, asked, acquired, retaken, released, tried}
use Rattle.dim_vm.proofs.Leads.{fits_entry, fits_plain, fits_own, moved_thread, moved_fuel}
use Rattle.dim_vm.proofs.Asks.{runs, may_end, lacks}

module _ (p : Code) (c : Configuration) (z : Seen) (stopped woken : Type 0) where
  turned_entry : (r : Reply) (e : Entry) → FitsMachine p c z.own → z.thread ≡ c.thread → FitsOwn p c e → is_end e ≡ false → stops_after r z.stops ≡ z.stops
      → Turned p c z turn.Moved (moved p c e) (door_after z r (Some e)) stopped woken
  turned_entry r e f t m no_end on = record {
    turn_is = inr (record { entry = e; fits = m; no_end = no_end; after = refl });
    fits = fits_entry p c z.own e f m;
    fuel = moved_fuel c e (next_of p c);
    thread = t ∙ sym (moved_thread c e (next_of p c));
    same = refl;
    locks = refl;
    left = omega arith;
    stops = on;
    stop = tt;
  }

  -- the machine has made an entry
  turned_by : (c' : Configuration) (z' : Seen) (r : Reply) (e : Entry) → FitsMachine p c z.own → z.thread ≡ c.thread → FitsOwn p c e → is_end e ≡ false → stops_after r z.stops ≡ z.stops
      → c' ≡ moved p c e → z' ≡ door_after z r (Some e) → Turned p c z turn.Moved c' z' stopped woken
  turned_by c' z' r e f t m no_end on at seen =
      subst (λ x. Turned p c z turn.Moved x z' stopped woken) (sym at) (subst (λ y. Turned p c z turn.Moved (moved p c e) y stopped woken) (sym seen) (turned_entry r e f t m no_end on))

  turned_end : (why : Why) → FitsMachine p c z.own → z.thread ≡ c.thread → FitsEntry p (MayEnd woken c.state) c (entry.End c.thread why)
      → Turned p c z turn.Over (record c { state = Ended why }) (told z (cmd.End why) reply.Ended) stopped woken
  turned_end why f t m = record {
    turn_is = record { why = why; fits = m; after = ap (λ u. record { at = record c { state = Ended why }; own = z.own ++ entry.End u why ∷ [] }) t };
    fits = subst (λ u. FitsMachine p (record c { state = Ended why }) (z.own ++ entry.End u why ∷ [])) (sym t) (fits_entry p c z.own (entry.End c.thread why) f (fits_own p woken c (entry.End c.thread why) m));
    fuel = refl;
    thread = t;
    same = refl;
    locks = refl;
    left = omega arith;
    stops = refl;
    stop = tt;
  }

  -- the machine has ended
  turned_over : (c' : Configuration) (z' : Seen) (why : Why) → FitsMachine p c z.own → z.thread ≡ c.thread → FitsEntry p (MayEnd woken c.state) c (entry.End c.thread why)
      → c' ≡ record c { state = Ended why } → z' ≡ told z (cmd.End why) reply.Ended → Turned p c z turn.Over c' z' stopped woken
  turned_over c' z' why f t m at seen =
      subst (λ x. Turned p c z turn.Over x z' stopped woken) (sym at) (subst (λ y. Turned p c z turn.Over (record c { state = Ended why }) y stopped woken) (sym seen) (turned_end why f t m))

  pub turned_free : (l : Lid) (drops : Bool) (c' : Configuration) (z' : Seen) → Faces p c z (step.Frees l drops) → c' ≡ released l drops c → z' ≡ told z (cmd.Release l) reply.Freed → Turned p c z turn.Moved c' z' stopped woken
  turned_free l drops c' z' f at seen =
      turned_by c' z' reply.Freed (entry.Free z.thread l) f.fits f.thread
      (record { going = f.going; by = ap Some f.thread; next = (f.units, (_, f.shows.is)) })
      refl
      refl
      (at ∙ ap (λ n. moved_by c (entry.Free z.thread l) n) (sym f.shows.is))
      seen

  pub turned_retake : (l : Lid) (drops : Bool) (c' : Configuration) (z' : Seen) → Faces p c z (step.Retakes l drops) → c' ≡ retaken l drops c → z' ≡ told z (request_of p c l) reply.Took
      → Turned p c z turn.Moved c' z' stopped woken
  turned_retake l drops c' z' f at seen =
      turned_by c' z' reply.Took (entry.Took z.thread l (stack_of p c.context.frames)) f.fits f.thread
      (record { going = f.going; by = ap Some f.thread; next = (f.units, refl, inr (_, f.shows.is)) })
      refl
      refl
      (at ∙ ap (λ n. moved_by c (entry.Took z.thread l (stack_of p c.context.frames)) n) (sym f.shows.is))
      seen

  tries : (l : Lid) (e : Entry) (c' : Configuration) (z' : Seen) (r : Reply) → Faces p c z (step.Tries l) → FitsOwn p c e → is_end e ≡ false → stops_after r z.stops ≡ z.stops
      → c' ≡ moved_by c e (told_by c.context (step.Tries l) c.context) → z' ≡ door_after z r (Some e) → Turned p c z turn.Moved c' z' stopped woken
  tries l e c' z' r f m no_end on at seen = turned_by c' z' r e f.fits f.thread m no_end on (at ∙ ap (λ n. moved_by c e n) (sym f.shows.is)) seen

  pub turned_try : (l : Lid) (c' : Configuration) (z' : Seen) (r : Reply) → Faces p c z (step.Tries l) → IsReplyTo z (attempt_of p c l) r
      → c' ≡ tried l c r → z' ≡ told z (attempt_of p c l) r → Turned p c z turn.Moved c' z' stopped woken
  turned_try l c' z' reply.Took f may at seen =
      tries l (entry.Took z.thread l (stack_of p c.context.frames)) c' z' reply.Took f (record { going = f.going; by = ap Some f.thread; next = (f.units, refl, inl (_, _, f.shows.is)) }) refl refl at seen
  turned_try l c' z' (reply.MissBusy holder) f may at seen =
      tries l (entry.Miss z.thread l (stack_of p c.context.frames) (miss.Busy holder)) c' z' (reply.MissBusy holder) f (record { going = f.going; by = ap Some f.thread; next = (f.units, refl, (_, _, f.shows.is)) }) refl refl at seen
  turned_try l c' z' (reply.MissAvoid named) f may at seen =
      tries l (entry.Miss z.thread l (stack_of p c.context.frames) (miss.Avoid named)) c' z' (reply.MissAvoid named) f (record { going = f.going; by = ap Some f.thread; next = (f.units, refl, (_, _, f.shows.is)) }) refl refl at seen
  turned_try l c' z' _ f may at seen = absurd may

  pub turned_wish : (l : Lid) (drops : Bool) (c' : Configuration) (z' : Seen) (r : Reply) → Faces p c z (step.Wants l drops) → 2 ≤ c.units → IsReplyTo z (request_of p c l) r
      → c' ≡ asked l c r → z' ≡ told z (request_of p c l) r → Turned p c z turn.Moved c' z' stopped woken
  turned_wish l drops c' z' reply.Go f two may at seen =
      turned_by c' z' reply.Go (entry.Go z.thread l (stack_of p c.context.frames)) f.fits f.thread
      (record { going = f.going; by = ap Some f.thread; next = (two, refl, (_, f.shows.is)) }) refl refl at seen
  turned_wish l drops c' z' (reply.Yield named) f two may at seen =
      turned_by c' z' (reply.Yield named) (entry.Yield z.thread l (stack_of p c.context.frames) named.sig named.births) f.fits f.thread
      (record { going = f.going; by = ap Some f.thread; next = (two, refl, (_, f.shows.is)) }) refl refl at seen
  turned_wish l drops c' z' reply.Took f two may at seen =
      let none : times_in z l ≡ 0 = lacks p c z l f.fits f.thread f.found.low f.found.held in
      let some : 1 ≤ times_in z l = may in
      absurd (omega (arith, none, some))
  turned_wish l drops c' z' _ f two may at seen = absurd may

  pub turned_spent : (l : Lid) (drops : Bool) (c' : Configuration) (z' : Seen) → Faces p c z (step.Wants l drops) → IsReady c.state z woken → c.units < 2
      → c' ≡ record c { state = Ended Spent } → z' ≡ told z (cmd.End Spent) reply.Ended → Turned p c z turn.Over c' z' stopped woken
  turned_spent l drops c' z' f free few at seen =
      turned_over c' z' Spent f.fits f.thread
      (record { going = f.going; by = refl; next = inr (omega (arith, f.units), may_end p c z c.state woken free, (l, (_, f.shows.is))) })
      at seen

  pub turned_got : (l : Lid) (drops : Bool) (c' : Configuration) (z' : Seen) → Faces p c z (step.Wants l drops)
      → c' ≡ acquired l drops c reply.Got → z' ≡ told z (cmd.Acquire l) reply.Got → Turned p c z turn.Moved c' z' stopped woken
  turned_got l drops c' z' f at seen =
      turned_by c' z' reply.Got (entry.Got z.thread l) f.fits f.thread
      (record { going = f.going; by = ap Some f.thread; next = (f.units, (_, f.shows.is)) })
      refl
      refl
      (at ∙ ap (λ n. moved_by c (entry.Got z.thread l) n) (sym f.shows.is))
      seen

  ends_next : (why : Why) → next_of p c ≡ Ends why → why ≢ Spent → 1 ≤ c.units → FitsNext c.units (stack_of p c.context.frames) (MayEnd woken c.state) (entry.End c.thread why) (next_of p c)
  ends_next Done e other units = (units, e)
  ends_next (Trapped k) e other units = (units, e)
  ends_next Spent e other units = absurd (other refl)

  pub turned_ends : (why : Why) (c' : Configuration) (z' : Seen) → Faces p c z (step.Ends why)
      → c' ≡ record c { state = Ended why } → z' ≡ told z (cmd.End why) reply.Ended → Turned p c z turn.Over c' z' stopped woken
  turned_ends why c' z' f at seen =
      turned_over c' z' why f.fits f.thread
      (record { going = f.going; by = refl; next = ends_next why f.shows.is f.found f.units })
      at seen

  pub turned_empty : (c' : Configuration) (z' : Seen) → FitsMachine p c z.own → z.thread ≡ c.thread → is_ended c.state ≡ false → c.units ≡ 0
      → c' ≡ record c { state = Ended Spent } → z' ≡ told z (cmd.End Spent) reply.Ended → Turned p c z turn.Over c' z' stopped woken
  turned_empty c' z' f t going none at seen = turned_over c' z' Spent f t (record { going = going; by = refl; next = inl none }) at seen

  -- a plain instruction
  pub turned_plain : (c' : Configuration) → FitsMachine p c z.own → z.thread ≡ c.thread → is_ended c.state ≡ false → 1 ≤ c.units → IsStep p c step.Plain c' → Turned p c z turn.Moved c' z stopped woken
  turned_plain c' f t going units s =
      let running = runs p c z c.state refl f going (λ m w. let x : Plain c'.context ≡ Wants m w.0 = sym s.shows.is ∙ w.1 in cc) in
      let makes : MakesPlain p (place c z) (place c' z) = record { context = c'.context; running = running; paid = units; next = s.shows.is; after = ap (λ x. place x z) s.rest } in
      record {
        turn_is = inl makes;
        fits = fits_plain p (place c z) (place c' z) f makes;
        fuel = ap (λ x. x.fuel) s.rest;
        thread = t ∙ ap (λ x. x.thread) (sym s.rest);
        same = refl;
        locks = refl;
        left = omega arith;
        stops = refl;
        stop = tt;
      }

  -- a poll that was told Busy or Still
  pub turned_stopped : (l : Lid) (drops : Bool) (c' : Configuration) (z' : Seen) (r : Reply) → FitsMachine p c z.own → z.thread ≡ c.thread → IsStop r → stopped
      → c' ≡ acquired l drops c r → z' ≡ told z (cmd.Acquire l) r → Turned p c z turn.Stopped c' z' stopped woken
  turned_stopped l drops c' z' (reply.Busy holder) f t stop here at seen =
      subst (λ x. Turned p c z turn.Stopped x z' stopped woken) (sym at) (subst (λ y. Turned p c z turn.Stopped c y stopped woken) (sym seen) (record {
        turn_is = refl;
        fits = f;
        fuel = refl;
        thread = t;
        same = refl;
        locks = refl;
        left = omega arith;
        stops = tt;
        stop = (record { once = refl; by = tt }, here);
      }))
  turned_stopped l drops c' z' (reply.Still cause) f t stop here at seen =
      subst (λ x. Turned p c z turn.Stopped x z' stopped woken) (sym at) (subst (λ y. Turned p c z turn.Stopped c y stopped woken) (sym seen) (record {
        turn_is = refl;
        fits = f;
        fuel = refl;
        thread = t;
        same = refl;
        locks = refl;
        left = omega arith;
        stops = tt;
        stop = (record { once = refl; by = tt }, here);
      }))
  turned_stopped l drops c' z' _ f t stop here at seen = absurd stop

-- what was stopped after a door was told nothing at which a slice stops was stopped before it
stops_from : (z0 z z' : Seen) (stopped : Type 0) (r : Turn) → z.stops ≡ z0.stops → StopsIf (WasStopped z z' × stopped) r → StopsIf (WasStopped z0 z' × stopped) r
stops_from z0 z z' stopped turn.Moved e h = tt
stops_from z0 z z' stopped turn.Over e h = tt
stops_from z0 z z' stopped turn.Stopped e h = (record { once = h.0.once ∙ ap raised e; by = h.0.by }, h.1)

-- a turn after a poll that was told Woken
turned_after : (p : Code) (c : Configuration) (z : Seen) (stopped woken : Type 0) (l : Lid) (r : Turn) (c' : Configuration) (z' : Seen)
    → Turned p c (told z (cmd.Acquire l) reply.Woken) r c' z' stopped woken → Turned p c z r c' z' stopped woken
turned_after p c z stopped woken l r c' z' h =
    record {
      turn_is = h.turn_is;
      fits = h.fits;
      fuel = h.fuel;
      thread = h.thread;
      same = h.same;
      locks = h.locks;
      left = h.left;
      stops = h.stops;
      stop = stops_from z (told z (cmd.Acquire l) reply.Woken) z' stopped r refl h.stop;
    }

pub turned_woken : (p : Code) (c c1 : Configuration) (z z1 : Seen) (stopped woken : Type 0) (l : Lid) (drops : Bool) (r : Turn) (c' : Configuration) (z' : Seen)
    → c1 ≡ acquired l drops c reply.Woken → z1 ≡ told z (cmd.Acquire l) reply.Woken → Turned p c1 z1 r c' z' stopped woken → Turned p c z r c' z' stopped woken
turned_woken p c c1 z z1 stopped woken l drops r c' z' at seen h =
    turned_after p c z stopped woken l r c' z'
    (subst (λ y. Turned p c y r c' z' stopped woken) seen (subst (λ x. Turned p x z1 r c' z' stopped woken) at h))
