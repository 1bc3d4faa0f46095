-- The stacks of walks: each frame is at an instruction of the program.
use Rattle.std.proofs.Common.{◌≡◌, ℕ, zero, suc, nat_lt, Bool, true, false, if◌then◌else◌, List, [], ◌∷◌, length, refl, sym, subst, inl, inr, Option, Some, None, ℤ, Result, Ok, Err}
use Rattle.std.specs.Prelude.{⊤, All, IsSome}
use Rattle.std.specs.List.{AllByRecursion}
use Rattle.std.proofs.lemmas.List.Elements.{All-from_recursion}
use Rattle.dim_base.specs.declared.Tid.{Tid}
use Rattle.dim_base.specs.declared.Lid.{Lid}
use Rattle.dim_stack.specs.declared.Frame.{Frame}
use Rattle.dim_asm.specs.Code.{Code, op_at, lock_count}
use Rattle.dim_asm.specs.declared.op.Op.{Op}
use Rattle.dim_asm.specs.declared.op.Op.TheVariants as op
use Rattle.dim_rag.specs.declared.entry.Entry.{Entry}
use Rattle.dim_rag.specs.declared.entry.Entry.TheVariants.{Go, Yield, Got, Free, Took, Miss, End, Break, Learn}
use Rattle.dim_rag.specs.declared.entry.Why.TheVariants.{Done}
use Rattle.dim_vm.specs.declared.trap.Trap.{Trap}
use Rattle.dim_vm.specs.declared.context.Context.{Context}
use Rattle.dim_vm.specs.declared.frames.CallFrame.{CallFrame}
use Rattle.dim_vm.specs.declared.state.State.{State}
use Rattle.dim_vm.specs.declared.state.State.TheVariants.{Running, Waits, Yields, Ended}
use Rattle.dim_vm.specs.Tops.{rest}
use Rattle.dim_vm.specs.Trap.{◌>>=◌}
use Rattle.dim_vm.specs.Frames.{top_frame, local, entered, stack_of}
use Rattle.dim_vm.specs.Operands.{top, push, pop, duplicate, swap, calculate, sum, difference, is_less, is_equal, is_zero, lock_operand}
use Rattle.dim_vm.specs.Table.{Next, Plain, Ends, Wants, Retakes, Frees, Tries, times, next, row, row_at, row_here, ended_by, operated, has_local, jump, on, dropped, lock_next}
use Rattle.dim_vm.specs.Configuration.{Configuration, Course, course, course_by, next_of, start, rested_in, moved, moved_by, passed, missed, led}
use Rattle.dim_vm.specs.Fitting.{IsWanting, IsRetaking, IsTrying}
use Rattle.dim_vm.specs.Walks.{Walks, own_of}
use Rattle.dim_vm.specs.Stacks.{stack_with, IsAtInstruction, AskedLaw}

module _ (p : Code) where
  -- a call is at an instruction
  abbrev IsThere : CallFrame → Type 0
  IsThere f = IsSome (op_at p f.func f.at)

  -- all calls below the newest are
  abbrev AreThere : List CallFrame → Type 0
  AreThere fs = AllByRecursion IsThere (rest fs)

  -- so it is in all that a thing leaves
  abbrev Leaves : Next → Type 0
  Leaves (Plain b) = AreThere b.frames
  Leaves (Ends why) = ⊤
  Leaves (Wants l after) = AreThere after.frames
  Leaves (Retakes l after) = AreThere after.frames
  Leaves (Frees l after) = AreThere after.frames
  Leaves (Tries l took miss) = AreThere took.frames × AreThere miss.frames

  abbrev LeavesRow : Result Next Trap → Type 0
  LeavesRow (Ok n) = Leaves n
  LeavesRow (Err k) = ⊤

  in_bind : {A : Type 0} (r : Result A Trap) (f : A → Result Next Trap) → ((x : A) → LeavesRow (f x)) → LeavesRow (r >>= f)
  in_bind (Ok x) f h = h x
  in_bind (Err k) f h = tt

  in_if : (c : Bool) (x y : Result Next Trap) → LeavesRow x → LeavesRow y → LeavesRow (if c then x else y)
  in_if true x y f g = f
  in_if false x y f g = g

  in_jump : (c : Bool) (x y : Context) → AreThere x.frames → AreThere y.frames → AreThere (if c then x else y).frames
  in_jump true x y f g = f
  in_jump false x y f g = g

  in_return : (c : Bool) (x : Context) → AreThere x.frames → Leaves (if c then Plain x else Ends Done)
  in_return true x h = h
  in_return false x h = tt

  -- a call more, where the newest is at an instruction
  all_there : (fs : List CallFrame) → IsThere (top_frame fs) → AreThere fs → AllByRecursion IsThere fs
  all_there [] t h = tt
  all_there (f ∷ fs) t h = (t, h)

  in_call : (c : Bool) (fs : List CallFrame) (f : ℕ) (k : Trap) (b : Context) → AllByRecursion IsThere fs
      → LeavesRow ((if c then Ok (entered f ∷ fs) else Err k) >>= λ gs. Ok (Plain (record b { frames = gs })))
  in_call true fs f k b h = h
  in_call false fs f k b h = tt

  -- a call less
  fewer : (fs : List CallFrame) → AllByRecursion IsThere fs → AreThere fs
  fewer [] h = tt
  fewer (f ∷ fs) h = h.1

  module _ (holds : List ℕ) (b : Context) (there : AreThere b.frames) where
    in_operated : (r : Result (List ℤ) Trap) → LeavesRow (operated b r)
    in_operated r = in_bind r _ (λ ns. there)

    in_lock : (l : Lid) (after : Context) → AreThere after.frames → LeavesRow (lock_next holds l after)
    in_lock l after h = in_if (nat_lt (times holds l.0) 255) _ _ (in_if (nat_lt 0 (times holds l.0)) _ _ h h) tt

    row_leaves : (o : Op) → IsThere (top_frame b.frames) → LeavesRow (row p holds b o)
    row_leaves (op.Push n) t = in_operated (push n b.operands)
    row_leaves op.Pop t = in_operated (pop b.operands)
    row_leaves op.Dup t = in_operated (duplicate b.operands)
    row_leaves op.Swap t = in_operated (swap b.operands)
    row_leaves op.Add t = in_operated (calculate sum b.operands)
    row_leaves op.Sub t = in_operated (calculate difference b.operands)
    row_leaves op.Lt t = in_operated (calculate is_less b.operands)
    row_leaves op.Eq t = in_operated (calculate is_equal b.operands)
    row_leaves (op.Jmp k) t = there
    row_leaves (op.Jz k) t = in_bind (top b.operands) _ (λ n. in_jump (is_zero n) (jump k (dropped b)) (on (dropped b)) there there)
    row_leaves (op.GetL i) t = in_bind (has_local p i b) _ (λ u. in_operated (push (local i b.frames) b.operands))
    row_leaves (op.PutL i) t = in_bind (has_local p i b) _ (λ u. in_bind (top b.operands) _ (λ n. there))
    row_leaves (op.Call f) t = in_call (nat_lt (length b.frames) 32) b.frames f _ b (all_there b.frames t there)
    row_leaves op.Ret t = in_return (nat_lt 1 (length b.frames)) _ (fewer (rest b.frames) there)
    row_leaves (op.Lock l) t = in_lock l (on b) there
    row_leaves op.LockX t = in_bind (lock_operand (lock_count p) b.operands) _ (λ l. in_lock l (on (dropped b)) there)
    row_leaves (op.Unlock l) t = in_if (nat_lt 0 (times holds l.0)) _ _ there tt
    row_leaves op.UnlockX t = in_bind (lock_operand (lock_count p) b.operands) _ (λ l. in_if (nat_lt 0 (times holds l.0)) _ _ there tt)
    row_leaves (op.TryLock l) t = in_if (nat_lt (times holds l.0) 255) _ _ (in_if (nat_lt (length b.operands) 256) _ _ (there, there) tt) tt
    row_leaves op.Say t = in_bind (top b.operands) _ (λ n. there)
    row_leaves op.Halt t = tt

    at_leaves : (o : Option Op) → op_at p (top_frame b.frames).func (top_frame b.frames).at ≡ o → LeavesRow (row_at p holds b o)
    at_leaves None e = tt
    at_leaves (Some x) e = row_leaves x (subst (λ y. IsSome y) (sym e) refl)

    ended_leaves : (r : Result Next Trap) → LeavesRow r → Leaves (ended_by r)
    ended_leaves (Ok n) h = h
    ended_leaves (Err k) h = tt

    next_leaves : Leaves (next p holds b)
    next_leaves = ended_leaves (row_here p holds b) (at_leaves (op_at p (top_frame b.frames).func (top_frame b.frames).at) refl)

  -- after the plain instructions that come next
  by_leaves : (n : Next) (onwards : Context → Course) (here : Course) → Leaves n → ((x : Context) → AreThere x.frames → AreThere (onwards x).context.frames) → AreThere here.context.frames
      → AreThere (course_by n onwards here).context.frames
  by_leaves (Plain b) onwards here h f t = f b h
  by_leaves (Ends why) onwards here h f t = t
  by_leaves (Wants l after) onwards here h f t = t
  by_leaves (Retakes l after) onwards here h f t = t
  by_leaves (Frees l after) onwards here h f t = t
  by_leaves (Tries l took miss) onwards here h f t = t

  course_leaves : (holds : List ℕ) (units : ℕ) (b : Context) → AreThere b.frames → AreThere (course p holds units b).context.frames
  course_leaves holds zero b h = h
  course_leaves holds (suc n) b h =
      by_leaves (next p holds b) (course p holds n) (record { units = suc n; context = b }) (next_leaves holds b h) (λ x. course_leaves holds n x) h

  rested_leaves : (c : Configuration) (s : State) → AreThere c.context.frames → AreThere (rested_in p c s).context.frames
  rested_leaves c Running h = course_leaves c.holds c.units c.context h
  rested_leaves c (Waits l) h = h
  rested_leaves c (Yields l) h = h
  rested_leaves c (Ended why) h = h

  -- after an instruction about a lock
  passed_leaves : (n : Next) (b : Context) → Leaves n → AreThere b.frames → AreThere (passed n b).frames
  passed_leaves (Plain x) b h t = t
  passed_leaves (Ends why) b h t = t
  passed_leaves (Wants l after) b h t = h
  passed_leaves (Retakes l after) b h t = h
  passed_leaves (Frees l after) b h t = h
  passed_leaves (Tries l took miss) b h t = h.0

  missed_leaves : (n : Next) (b : Context) → Leaves n → AreThere b.frames → AreThere (missed n b).frames
  missed_leaves (Plain x) b h t = t
  missed_leaves (Ends why) b h t = t
  missed_leaves (Wants l after) b h t = t
  missed_leaves (Retakes l after) b h t = t
  missed_leaves (Frees l after) b h t = t
  missed_leaves (Tries l took miss) b h t = h.1

  moved_leaves : (c : Configuration) (e : Entry) (n : Next) → Leaves n → AreThere c.context.frames → AreThere (moved_by c e n).context.frames
  moved_leaves c (Go t l s) n h there = there
  moved_leaves c (Yield t l s sig births) n h there = there
  moved_leaves c (Got t l) n h there = passed_leaves n c.context h there
  moved_leaves c (Free t l) n h there = passed_leaves n c.context h there
  moved_leaves c (Took t l s) n h there = passed_leaves n c.context h there
  moved_leaves c (Miss t l s why) n h there = missed_leaves n c.context h there
  moved_leaves c (End t why) n h there = there
  moved_leaves c (Break set t) n h there = there
  moved_leaves c (Learn births) n h there = there

  -- wherever own entries lead
  led_there : (t : Tid) (fuel : ℕ) (own : List Entry) → AreThere (led p t fuel own).context.frames
  led_there t fuel [] = rested_leaves (start p t fuel) Running tt
  led_there t fuel (e ∷ own) =
      let c = led p t fuel own in
      let h = led_there t fuel own in
      rested_leaves (moved p c e) (moved p c e).state (moved_leaves c e (next_of p c) (next_leaves c.holds c.context h) h)

  -- where a lock is to be taken, or tried, there is an instruction
  wants_at : (holds : List ℕ) (b : Context) (l : Lid) (after : Context) (o : Option Op) → ended_by (row_at p holds b o) ≡ Wants l after → IsSome o
  wants_at holds b l after None e = cc
  wants_at holds b l after (Some x) e = refl

  retakes_at : (holds : List ℕ) (b : Context) (l : Lid) (after : Context) (o : Option Op) → ended_by (row_at p holds b o) ≡ Retakes l after → IsSome o
  retakes_at holds b l after None e = cc
  retakes_at holds b l after (Some x) e = refl

  tries_at : (holds : List ℕ) (b : Context) (l : Lid) (took miss : Context) (o : Option Op) → ended_by (row_at p holds b o) ≡ Tries l took miss → IsSome o
  tries_at holds b l took miss None e = cc
  tries_at holds b l took miss (Some x) e = refl

  -- the frames of calls that are all at instructions
  frames_at : (fs : List CallFrame) → AllByRecursion IsThere fs → AllByRecursion (IsAtInstruction p) (stack_of p fs)
  frames_at [] h = tt
  frames_at (f ∷ fs) h = (record { func = f.func; number = refl; there = h.0 }, frames_at fs h.1)

  stack_at : (t : Tid) (fuel : ℕ) (own : List Entry) (s : List Frame) → s ≡ stack_of p (led p t fuel own).context.frames → IsThere (top_frame (led p t fuel own).context.frames)
      → All (IsAtInstruction p) s
  stack_at t fuel own s is top =
      let fs = (led p t fuel own).context.frames in
      subst (All (IsAtInstruction p)) (sym is) (All-from_recursion (IsAtInstruction p) (stack_of p fs) (frames_at fs (all_there fs top (led_there t fuel own))))

  wanting_at : (t : Tid) (fuel : ℕ) (own : List Entry) (l : Lid) (s : List Frame) → s ≡ stack_of p (led p t fuel own).context.frames → IsWanting l (next_of p (led p t fuel own)) → All (IsAtInstruction p) s
  wanting_at t fuel own l s is w =
      let c = led p t fuel own in
      stack_at t fuel own s is (wants_at c.holds c.context l w.0 (op_at p (top_frame c.context.frames).func (top_frame c.context.frames).at) w.1)

  trying_at : (t : Tid) (fuel : ℕ) (own : List Entry) (l : Lid) (s : List Frame) → s ≡ stack_of p (led p t fuel own).context.frames → IsTrying l (next_of p (led p t fuel own)) → All (IsAtInstruction p) s
  trying_at t fuel own l s is w =
      let c = led p t fuel own in
      stack_at t fuel own s is (tries_at c.holds c.context l w.0 w.1 (op_at p (top_frame c.context.frames).func (top_frame c.context.frames).at) w.2)

  retaking_at : (t : Tid) (fuel : ℕ) (own : List Entry) (l : Lid) (s : List Frame) → s ≡ stack_of p (led p t fuel own).context.frames → IsRetaking l (next_of p (led p t fuel own)) → All (IsAtInstruction p) s
  retaking_at t fuel own l s is w =
      let c = led p t fuel own in
      stack_at t fuel own s is (retakes_at c.holds c.context l w.0 (op_at p (top_frame c.context.frames).func (top_frame c.context.frames).at) w.1)

  none_at : All (IsAtInstruction p) []
  none_at = All-from_recursion (IsAtInstruction p) [] tt

  all_at : (fuel : ℕ) (h : List Entry) → Walks p fuel h → AllByRecursion (λ e. All (IsAtInstruction p) (stack_with e)) h
  all_at fuel [] w = tt
  all_at fuel (Go t l s ∷ h) w = (wanting_at t fuel (own_of t h) l s w.0.next.1 w.0.next.2, all_at fuel h w.1)
  all_at fuel (Yield t l s sig births ∷ h) w = (wanting_at t fuel (own_of t h) l s w.0.next.1 w.0.next.2, all_at fuel h w.1)
  all_at fuel (Got t l ∷ h) w = (none_at, all_at fuel h w.1)
  all_at fuel (Free t l ∷ h) w = (none_at, all_at fuel h w.1)
  all_at fuel (Took t l s ∷ h) w = (
    elim w.0.next.2 [
      | inl k ↦ trying_at t fuel (own_of t h) l s w.0.next.1 k
      | inr k ↦ retaking_at t fuel (own_of t h) l s w.0.next.1 k
    ],
    all_at fuel h w.1,
  )
  all_at fuel (Miss t l s why ∷ h) w = (trying_at t fuel (own_of t h) l s w.0.next.1 w.0.next.2, all_at fuel h w.1)
  all_at fuel (End t why ∷ h) w = (none_at, all_at fuel h w.1)
  all_at fuel (Break set t ∷ h) w = (none_at, all_at fuel h w.1)
  all_at fuel (Learn births ∷ h) w = (none_at, all_at fuel h w.1)

pub asked_law : AskedLaw
asked_law p fuel h w = All-from_recursion (λ e. All (IsAtInstruction p) (stack_with e)) h (all_at p fuel h w)
