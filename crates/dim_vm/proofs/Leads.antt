-- One move keeps that a thread's own entries lead to it.
use Rattle.std.proofs.Common.{◌≡◌, ◌≢◌, ℕ, zero, suc, ◌-◌, ◌≤◌, ◌⊎◌, inl, inr, Bool, true, false, List, [], ◌∷◌, ◌++◌, refl, ap, ap₂, sym, subst, ◌∙◌, arith}
use Rattle.std.proofs.lemmas.List.{reverse-append}
use Rattle.dim_stack.specs.declared.Frame.{Frame}
use Rattle.dim_asm.specs.Code.{Code}
use Rattle.dim_rag.specs.declared.entry.Entry.{Entry}
use Rattle.dim_rag.specs.declared.entry.Entry.TheVariants.{Go, Yield, Got, Free, Took, Miss, End, Break, Learn}
use Rattle.dim_rag.specs.declared.entry.Why.TheVariants.{Done, Trapped, Spent}
use Rattle.dim_rag.specs.History.{past}
use Rattle.dim_vm.specs.declared.context.Context.{Context}
use Rattle.dim_vm.specs.declared.state.State.{State}
use Rattle.dim_vm.specs.declared.state.State.TheVariants.{Running, Waits, Yields, Ended}
use Rattle.dim_vm.specs.declared.step.Step.{Step}
use Rattle.dim_vm.specs.declared.step.Step.TheVariants as step
use Rattle.dim_vm.specs.Table.{Next, Plain, Ends, Wants, Retakes, Frees, Tries, next}
use Rattle.dim_vm.specs.Configuration.{Configuration, next_of, Course, course, course_by, with_course, rested, rested_in, moved, moved_by, led}
use Rattle.dim_vm.specs.Fitting.{FitsNext, FitsEntry, FitsOwn, MayEnd, OwnWalk, FitsMachine}
use Rattle.dim_vm.specs.Moves.{Whereabouts, MakesPlain}
use Rattle.dim_vm.specs.Turns.{IsStep}

pub past_more : (own : List Entry) (e : Entry) → past (own ++ e ∷ []) ≡ e ∷ past own
past_more own e = reverse-append own (e ∷ [])

-- a plain instruction is one of those that come next
course_step : (p : Code) (holds : List ℕ) (units : ℕ) (b after : Context) → 1 ≤ units → next p holds b ≡ Plain after → course p holds units b ≡ course p holds (units - 1) after
course_step p holds zero b after paid e = absurd (omega arith)
course_step p holds (suc n) b after paid e =
    let m : suc n - 1 ≡ n = omega arith in
    ap (λ x. course_by x (course p holds n) (record { units = suc n; context = b })) e ∙ ap (λ k. course p holds k after) (sym m)

rested_step : (p : Code) (c : Configuration) (after : Context) → c.state ≡ Running → 1 ≤ c.units → next_of p c ≡ Plain after → rested p c ≡ rested p (record c { units = c.units - 1; context = after })
rested_step p c after running paid e =
    ap (rested_in p c) running
    ∙ ap (with_course c) (course_step p c.holds c.units c.context after paid e)
    ∙ ap (rested_in p (record c { units = c.units - 1; context = after })) (sym running)

pub fits_plain : (p : Code) (a b : Whereabouts) → FitsMachine p a.at a.own → MakesPlain p a b → FitsMachine p b.at b.own
fits_plain p a b f m =
    let P : Whereabouts → Type 0 = λ x. FitsMachine p x.at x.own in
    subst P (sym m.after) (record { walk = f.walk; leads = f.leads ∙ rested_step p a.at m.context m.running m.paid m.next })

-- a next thing that isn't plain
abbrev is_plain : Next → Bool
is_plain (Plain b) = true
is_plain _ = false

course_here : (n : Next) (onwards : Context → Course) (here : Course) → is_plain n ≡ false → course_by n onwards here ≡ here
course_here (Plain b) onwards here e = cc
course_here (Ends why) onwards here e = refl
course_here (Wants l b) onwards here e = refl
course_here (Retakes l b) onwards here e = refl
course_here (Frees l b) onwards here e = refl
course_here (Tries l a b) onwards here e = refl

course_stays : (p : Code) (holds : List ℕ) (units : ℕ) (b : Context) → (units ≡ 0) ⊎ (is_plain (next p holds b) ≡ false) → course p holds units b ≡ record { units = units; context = b }
course_stays p holds zero b e = refl
course_stays p holds (suc n) b (inl e) = absurd (omega arith)
course_stays p holds (suc n) b (inr e) = course_here (next p holds b) (course p holds n) (record { units = suc n; context = b }) e

rested_stays_in : (p : Code) (c : Configuration) (state : State) → (c.units ≡ 0) ⊎ (is_plain (next_of p c) ≡ false) → rested_in p c state ≡ c
rested_stays_in p c Running e = ap (with_course c) (course_stays p c.holds c.units c.context e)
rested_stays_in p c (Waits l) e = refl
rested_stays_in p c (Yields l) e = refl
rested_stays_in p c (Ended why) e = refl

still_there : (p : Code) (c c' : Configuration) → c' ≡ record c { units = c.units - 0; context = c'.context } → c'.context ≡ c.context → is_plain (next_of p c) ≡ false → c' ≡ rested p c
still_there p c c' at kept other =
    let whole : c.units - 0 ≡ c.units = omega arith in
    at ∙ ap₂ (λ n b. record c { units = n; context = b }) whole kept ∙ sym (rested_stays_in p c c.state (inr other))

-- a step that wasn't made was behind the plain instructions that come next
pub rested_here : (p : Code) (c c' : Configuration) (s : Step) → IsStep p c s c' → s ≢ step.Plain → c' ≡ rested p c
rested_here p c c' step.Plain m other = absurd (other refl)
rested_here p c c' (step.Ends why) m other = still_there p c c' m.rest m.shows.keeps (ap is_plain m.shows.is)
rested_here p c c' (step.Wants l drops) m other = still_there p c c' m.rest m.shows.keeps (ap is_plain m.shows.is)
rested_here p c c' (step.Retakes l drops) m other = still_there p c c' m.rest m.shows.keeps (ap is_plain m.shows.is)
rested_here p c c' (step.Frees l drops) m other = still_there p c c' m.rest m.shows.keeps (ap is_plain m.shows.is)
rested_here p c c' (step.Tries l) m other = still_there p c c' m.rest m.shows.keeps (ap is_plain m.shows.is)

-- an entry fits only where no plain instruction comes next
fits_still : (units : ℕ) (stack : List Frame) (may_end : Type 0) (e : Entry) (n : Next) → FitsNext units stack may_end e n → (units ≡ 0) ⊎ (is_plain n ≡ false)
fits_still units stack may_end (Go t l s) n h = inr (ap is_plain h.2.1)
fits_still units stack may_end (Yield t l s sig births) n h = inr (ap is_plain h.2.1)
fits_still units stack may_end (Got t l) n h = inr (ap is_plain h.1.1)
fits_still units stack may_end (Free t l) n h = inr (ap is_plain h.1.1)
fits_still units stack may_end (Took t l s) n h = elim h.2 [ inl k ↦ inr (ap is_plain k.2) | inr k ↦ inr (ap is_plain k.1) ]
fits_still units stack may_end (Miss t l s why) n h = inr (ap is_plain h.2.2)
fits_still units stack may_end (End t Spent) n (inl h) = inl h
fits_still units stack may_end (End t Spent) n (inr h) = inr (ap is_plain h.2.1.1)
fits_still units stack may_end (End t Done) n h = inr (ap is_plain h.1)
fits_still units stack may_end (End t (Trapped k)) n h = inr (ap is_plain h.1)
fits_still units stack may_end (Break set t) n h = absurd h
fits_still units stack may_end (Learn births) n h = absurd h

-- the thread and the fuel stay
pub moved_thread : (c : Configuration) (e : Entry) (n : Next) → (moved_by c e n).thread ≡ c.thread
moved_thread c (Go t l s) n = refl
moved_thread c (Yield t l s sig births) n = refl
moved_thread c (Got t l) n = refl
moved_thread c (Free t l) n = refl
moved_thread c (Took t l s) n = refl
moved_thread c (Miss t l s why) n = refl
moved_thread c (End t why) n = refl
moved_thread c (Break set t) n = refl
moved_thread c (Learn births) n = refl

pub moved_fuel : (c : Configuration) (e : Entry) (n : Next) → (moved_by c e n).fuel ≡ c.fuel
moved_fuel c (Go t l s) n = refl
moved_fuel c (Yield t l s sig births) n = refl
moved_fuel c (Got t l) n = refl
moved_fuel c (Free t l) n = refl
moved_fuel c (Took t l s) n = refl
moved_fuel c (Miss t l s why) n = refl
moved_fuel c (End t why) n = refl
moved_fuel c (Break set t) n = refl
moved_fuel c (Learn births) n = refl

-- an entry that fits where less may end fits where more may
fits_next_more : (units : ℕ) (stack : List Frame) (A B : Type 0) (e : Entry) (n : Next) → (A → B) → FitsNext units stack A e n → FitsNext units stack B e n
fits_next_more units stack A B (Go t l s) n f h = h
fits_next_more units stack A B (Yield t l s sig births) n f h = h
fits_next_more units stack A B (Got t l) n f h = h
fits_next_more units stack A B (Free t l) n f h = h
fits_next_more units stack A B (Took t l s) n f h = h
fits_next_more units stack A B (Miss t l s why) n f h = h
fits_next_more units stack A B (End t Spent) n f (inl h) = inl h
fits_next_more units stack A B (End t Spent) n f (inr h) = inr (h.0, f h.1, h.2)
fits_next_more units stack A B (End t Done) n f h = h
fits_next_more units stack A B (End t (Trapped k)) n f h = h
fits_next_more units stack A B (Break set t) n f h = h
fits_next_more units stack A B (Learn births) n f h = h

pub fits_more : (p : Code) (A B : Type 0) (c : Configuration) (e : Entry) → (A → B) → FitsEntry p A c e → FitsEntry p B c e
fits_more p A B c e f h = record { going = h.going; by = h.by; next = fits_next_more c.units _ A B e (next_of p c) f h.next }

may_end_more : (woken : Type 0) (s : State) → MayEnd woken s → MayEnd (Unit {0}) s
may_end_more woken Running h = tt
may_end_more woken (Yields l) h = tt
may_end_more woken (Waits l) h = h
may_end_more woken (Ended why) h = h

-- what fits one that is woken fits as far as its own entries say
pub fits_own : (p : Code) (woken : Type 0) (c : Configuration) (e : Entry) → FitsEntry p (MayEnd woken c.state) c e → FitsOwn p c e
fits_own p woken c e h = fits_more p (MayEnd woken c.state) (MayEnd (Unit {0}) c.state) c e (may_end_more woken c.state) h

-- the same after an entry that fits
pub fits_entry : (p : Code) (c : Configuration) (own : List Entry) (e : Entry) → FitsMachine p c own → FitsOwn p c e → FitsMachine p (moved p c e) (own ++ e ∷ [])
fits_entry p c own e f m =
    let still : rested p c ≡ c = rested_stays_in p c c.state (fits_still c.units _ _ e (next_of p c) m.next) in
    let here : led p c.thread c.fuel (past own) ≡ c = f.leads ∙ still in
    let same : led p (moved p c e).thread (moved p c e).fuel (past own) ≡ c = ap (λ t. led p t (moved p c e).fuel (past own)) (moved_thread c e (next_of p c)) ∙ ap (λ u. led p c.thread u (past own)) (moved_fuel c e (next_of p c)) ∙ here in
    let walk : OwnWalk p (moved p c e).thread (moved p c e).fuel (past own) = subst (λ t. OwnWalk p t (moved p c e).fuel (past own)) (sym (moved_thread c e (next_of p c))) (subst (λ u. OwnWalk p c.thread u (past own)) (sym (moved_fuel c e (next_of p c))) f.walk) in
    let P : List Entry → Type 0 = λ h. OwnWalk p (moved p c e).thread (moved p c e).fuel h × (led p (moved p c e).thread (moved p c e).fuel h ≡ rested p (moved p c e)) in
    let both : P (past (own ++ e ∷ [])) = subst P (sym (past_more own e)) ((subst (λ x. FitsOwn p x e) (sym same) m, walk), ap (λ x. rested p (moved p x e)) same) in
    record { walk = both.0; leads = both.1 }
