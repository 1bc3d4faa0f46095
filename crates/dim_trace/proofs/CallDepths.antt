-- In a walk each stack has 1 to 32 frames, and each trap is one of the nine.
use Rattle.std.proofs.Common.{◌≡◌, ℕ, zero, suc, ◌≤◌, nat_lt, Bool, true, false, if◌then◌else◌, List, [], ◌∷◌, length, refl, sym, subst, arith, Option, Some, None, ℤ, Result, Ok, Err}
use Rattle.std.specs.Prelude.{⊤}
use Rattle.std.proofs.lemmas.Bool.{ltb-true}
use Rattle.std.proofs.lemmas.List.{length-map}
use Rattle.dim_base.specs.declared.Tid.{Tid}
use Rattle.dim_stack.specs.declared.Frame.{Frame}
use Rattle.dim_asm.specs.Code.{Code, op_at, lock_count}
use Rattle.dim_asm.specs.declared.op.Op.{Op}
use Rattle.dim_asm.specs.declared.op.Op.TheVariants as op
use Rattle.dim_base.specs.declared.Lid.{Lid}
use Rattle.dim_rag.specs.declared.entry.Entry.{Entry}
use Rattle.dim_rag.specs.declared.entry.Entry.TheVariants.{Go, Yield, Got, Free, Took, Miss, End, Break, Learn}
use Rattle.dim_rag.specs.declared.entry.Why.TheVariants.{Done, Trapped, Spent}
use Rattle.dim_rag.specs.Tables.{caller_of}
use Rattle.dim_vm.specs.declared.trap.Trap.{Trap}
use Rattle.dim_vm.specs.declared.trap.Trap.TheVariants as trap
use Rattle.dim_vm.specs.declared.context.Context.{Context}
use Rattle.dim_vm.specs.declared.frames.CallFrame.{CallFrame}
use Rattle.dim_vm.specs.declared.state.State.{State}
use Rattle.dim_vm.specs.declared.state.State.TheVariants.{Running, Waits, Yields, Ended}
use Rattle.dim_vm.specs.Tops.{rest}
use Rattle.dim_vm.specs.Trap.{number, ◌>>=◌}
use Rattle.dim_vm.specs.Frames.{top_frame, local, entered, frame_of, stack_of}
use Rattle.dim_vm.specs.Operands.{top, push, pop, duplicate, swap, calculate, sum, difference, is_less, is_equal, is_zero, lock_operand}
use Rattle.dim_vm.specs.Table.{Next, Plain, Ends, Wants, Retakes, Frees, Tries, times, lock_next, next, row, row_at, row_here, ended_by, operated, has_local, jump, on, dropped}
use Rattle.dim_vm.specs.Configuration.{Configuration, Course, course, course_by, next_of, start, rested_in, moved, moved_by, passed, missed, led}
use Rattle.dim_vm.specs.Walks.{FitsCaller, own_of}
use Rattle.dim_trace.specs.Grammar.{IsWhy}

-- 1 to 32 calls
abbrev AreDeep : List CallFrame → Type 0
AreDeep [] = ⊥
AreDeep (f ∷ fs) = length fs ≤ 31

rest_few : (fs : List CallFrame) → AreDeep fs → length (rest fs) ≤ 31
rest_few [] h = absurd h
rest_few (f ∷ fs) h = h

rest_less : (fs : List CallFrame) → length (rest fs) ≤ length fs
rest_less [] = omega arith
rest_less (f ∷ fs) = omega arith

-- the frames of a stack
abbrev pub HasDepth : List Frame → Type 0
HasDepth s = (1 ≤ length s) × (length s ≤ 32)

-- what a stack or a trap of an entry is, where it has one
abbrev pub IsDeep : Entry → Type 0
IsDeep (Go t l s) = HasDepth s
IsDeep (Yield t l s sig births) = HasDepth s
IsDeep (Took t l s) = HasDepth s
IsDeep (Miss t l s why) = HasDepth s
IsDeep (End t why) = IsWhy why
IsDeep _ = ⊤

is_trap : (k : Trap) → IsWhy (Trapped (number k))
is_trap trap.Under = (omega arith, omega arith)
is_trap trap.Over = (omega arith, omega arith)
is_trap trap.Depth = (omega arith, omega arith)
is_trap trap.Sum = (omega arith, omega arith)
is_trap trap.Local = (omega arith, omega arith)
is_trap trap.NoLock = (omega arith, omega arith)
is_trap trap.Relock = (omega arith, omega arith)
is_trap trap.NotOwner = (omega arith, omega arith)
is_trap trap.FellOff = (omega arith, omega arith)

module _ (p : Code) where
  -- all that a thing leaves has 1 to 32 calls, and an ending is one that a trace can tell
  abbrev Leaves : Next → Type 0
  Leaves (Plain b) = AreDeep b.frames
  Leaves (Ends why) = IsWhy why
  Leaves (Wants l after) = AreDeep after.frames
  Leaves (Retakes l after) = AreDeep after.frames
  Leaves (Frees l after) = AreDeep after.frames
  Leaves (Tries l took miss) = AreDeep took.frames × AreDeep miss.frames

  abbrev LeavesRow : Result Next Trap → Type 0
  LeavesRow (Ok n) = Leaves n
  LeavesRow (Err k) = ⊤

  in_bind : {A : Type 0} (r : Result A Trap) (f : A → Result Next Trap) → ((x : A) → LeavesRow (f x)) → LeavesRow (r >>= f)
  in_bind (Ok x) f h = h x
  in_bind (Err k) f h = tt

  in_if : (c : Bool) (x y : Result Next Trap) → LeavesRow x → LeavesRow y → LeavesRow (if c then x else y)
  in_if true x y f g = f
  in_if false x y f g = g

  in_jump : (c : Bool) (x y : Context) → AreDeep x.frames → AreDeep y.frames → AreDeep (if c then x else y).frames
  in_jump true x y f g = f
  in_jump false x y f g = g

  in_return : (c : Bool) (x : Context) → AreDeep x.frames → Leaves (if c then Plain x else Ends Done)
  in_return true x h = h
  in_return false x h = tt

  -- a call more, where there is room for it
  in_call : (c : Bool) (fs : List CallFrame) (f : ℕ) (k : Trap) (b : Context) → nat_lt (length fs) 32 ≡ c
      → LeavesRow ((if c then Ok (entered f ∷ fs) else Err k) >>= λ gs. Ok (Plain (record b { frames = gs })))
  in_call true fs f k b e = omega (arith, ltb-true (length fs) 32 e)
  in_call false fs f k b e = tt

  module _ (holds : List ℕ) (b : Context) (few : length (rest b.frames) ≤ 31) where
    in_operated : (r : Result (List ℤ) Trap) → LeavesRow (operated b r)
    in_operated r = in_bind r _ (λ ns. few)

    in_lock : (l : Lid) (after : Context) → AreDeep after.frames → LeavesRow (lock_next holds l after)
    in_lock l after h = in_if (nat_lt (times holds l.0) 255) _ _ (in_if (nat_lt 0 (times holds l.0)) _ _ h h) tt

    row_leaves : (o : Op) → LeavesRow (row p holds b o)
    row_leaves (op.Push n) = in_operated (push n b.operands)
    row_leaves op.Pop = in_operated (pop b.operands)
    row_leaves op.Dup = in_operated (duplicate b.operands)
    row_leaves op.Swap = in_operated (swap b.operands)
    row_leaves op.Add = in_operated (calculate sum b.operands)
    row_leaves op.Sub = in_operated (calculate difference b.operands)
    row_leaves op.Lt = in_operated (calculate is_less b.operands)
    row_leaves op.Eq = in_operated (calculate is_equal b.operands)
    row_leaves (op.Jmp k) = few
    row_leaves (op.Jz k) = in_bind (top b.operands) _ (λ n. in_jump (is_zero n) (jump k (dropped b)) (on (dropped b)) few few)
    row_leaves (op.GetL i) = in_bind (has_local p i b) _ (λ u. in_operated (push (local i b.frames) b.operands))
    row_leaves (op.PutL i) = in_bind (has_local p i b) _ (λ u. in_bind (top b.operands) _ (λ n. few))
    row_leaves (op.Call f) = in_call (nat_lt (length b.frames) 32) b.frames f _ b refl
    row_leaves op.Ret = in_return (nat_lt 1 (length b.frames)) _ (omega (arith, few, rest_less (rest b.frames)))
    row_leaves (op.Lock l) = in_lock l (on b) few
    row_leaves op.LockX = in_bind (lock_operand (lock_count p) b.operands) _ (λ l. in_lock l (on (dropped b)) few)
    row_leaves (op.Unlock l) = in_if (nat_lt 0 (times holds l.0)) _ _ few tt
    row_leaves op.UnlockX = in_bind (lock_operand (lock_count p) b.operands) _ (λ l. in_if (nat_lt 0 (times holds l.0)) _ _ few tt)
    row_leaves (op.TryLock l) = in_if (nat_lt (times holds l.0) 255) _ _ (in_if (nat_lt (length b.operands) 256) _ _ (few, few) tt) tt
    row_leaves op.Say = in_bind (top b.operands) _ (λ n. few)
    row_leaves op.Halt = tt

    at_leaves : (o : Option Op) → LeavesRow (row_at p holds b o)
    at_leaves None = tt
    at_leaves (Some x) = row_leaves x

    ended_leaves : (r : Result Next Trap) → LeavesRow r → Leaves (ended_by r)
    ended_leaves (Ok n) h = h
    ended_leaves (Err k) h = is_trap k

    next_leaves : Leaves (next p holds b)
    next_leaves = ended_leaves (row_here p holds b) (at_leaves (op_at p (top_frame b.frames).func (top_frame b.frames).at))

  -- after the plain instructions that come next
  by_leaves : (n : Next) (onwards : Context → Course) (here : Course) → Leaves n → ((x : Context) → AreDeep x.frames → AreDeep (onwards x).context.frames) → AreDeep here.context.frames
      → AreDeep (course_by n onwards here).context.frames
  by_leaves (Plain b) onwards here h f t = f b h
  by_leaves (Ends why) onwards here h f t = t
  by_leaves (Wants l after) onwards here h f t = t
  by_leaves (Retakes l after) onwards here h f t = t
  by_leaves (Frees l after) onwards here h f t = t
  by_leaves (Tries l took miss) onwards here h f t = t

  course_leaves : (holds : List ℕ) (units : ℕ) (b : Context) → AreDeep b.frames → AreDeep (course p holds units b).context.frames
  course_leaves holds zero b h = h
  course_leaves holds (suc n) b h =
      by_leaves (next p holds b) (course p holds n) (record { units = suc n; context = b }) (next_leaves holds b (rest_few b.frames h)) (λ x. course_leaves holds n x) h

  rested_leaves : (c : Configuration) (s : State) → AreDeep c.context.frames → AreDeep (rested_in p c s).context.frames
  rested_leaves c Running h = course_leaves c.holds c.units c.context h
  rested_leaves c (Waits l) h = h
  rested_leaves c (Yields l) h = h
  rested_leaves c (Ended why) h = h

  -- after an instruction about a lock
  passed_leaves : (n : Next) (b : Context) → Leaves n → AreDeep b.frames → AreDeep (passed n b).frames
  passed_leaves (Plain x) b h t = t
  passed_leaves (Ends why) b h t = t
  passed_leaves (Wants l after) b h t = h
  passed_leaves (Retakes l after) b h t = h
  passed_leaves (Frees l after) b h t = h
  passed_leaves (Tries l took miss) b h t = h.0

  missed_leaves : (n : Next) (b : Context) → Leaves n → AreDeep b.frames → AreDeep (missed n b).frames
  missed_leaves (Plain x) b h t = t
  missed_leaves (Ends why) b h t = t
  missed_leaves (Wants l after) b h t = t
  missed_leaves (Retakes l after) b h t = t
  missed_leaves (Frees l after) b h t = t
  missed_leaves (Tries l took miss) b h t = h.1

  moved_leaves : (c : Configuration) (e : Entry) (n : Next) → Leaves n → AreDeep c.context.frames → AreDeep (moved_by c e n).context.frames
  moved_leaves c (Go t l s) n h deep = deep
  moved_leaves c (Yield t l s sig births) n h deep = deep
  moved_leaves c (Got t l) n h deep = passed_leaves n c.context h deep
  moved_leaves c (Free t l) n h deep = passed_leaves n c.context h deep
  moved_leaves c (Took t l s) n h deep = passed_leaves n c.context h deep
  moved_leaves c (Miss t l s why) n h deep = missed_leaves n c.context h deep
  moved_leaves c (End t why) n h deep = deep
  moved_leaves c (Break set t) n h deep = deep
  moved_leaves c (Learn births) n h deep = deep

  thing_leaves : (c : Configuration) → AreDeep c.context.frames → Leaves (next_of p c)
  thing_leaves c h = next_leaves c.holds c.context (rest_few c.context.frames h)

  -- wherever own entries lead
  led_deep : (t : Tid) (fuel : ℕ) (own : List Entry) → AreDeep (led p t fuel own).context.frames
  led_deep t fuel [] = rested_leaves (start p t fuel) Running (omega arith)
  led_deep t fuel (e ∷ own) =
      let c = led p t fuel own in
      let h = led_deep t fuel own in
      rested_leaves (moved p c e) (moved p c e).state (moved_leaves c e (next_of p c) (thing_leaves c h) h)

  depth_of : (fs : List CallFrame) → AreDeep fs → HasDepth (stack_of p fs)
  depth_of [] h = absurd h
  depth_of (f ∷ fs) h = let n : length (stack_of p fs) ≡ length fs = length-map fs (frame_of p) in (omega arith, omega (arith, h, n))

  asked : (t : Tid) (fuel : ℕ) (own : List Entry) (s : List Frame) → s ≡ stack_of p (led p t fuel own).context.frames → HasDepth s
  asked t fuel own s is = subst HasDepth (sym is) (depth_of (led p t fuel own).context.frames (led_deep t fuel own))

  ended : (t : Tid) (fuel : ℕ) (own : List Entry) (trap : ℕ) → next_of p (led p t fuel own) ≡ Ends (Trapped trap) → IsWhy (Trapped trap)
  ended t fuel own trap is = subst Leaves is (thing_leaves (led p t fuel own) (led_deep t fuel own))

  -- an entry that fits the configuration of its caller
  pub fitting : (fuel : ℕ) (h : List Entry) (e : Entry) → FitsCaller p fuel h e (caller_of e) → IsDeep e
  fitting fuel h (Go t l s) f = asked t fuel (own_of t h) s f.next.1
  fitting fuel h (Yield t l s sig births) f = asked t fuel (own_of t h) s f.next.1
  fitting fuel h (Got t l) f = tt
  fitting fuel h (Free t l) f = tt
  fitting fuel h (Took t l s) f = asked t fuel (own_of t h) s f.next.1
  fitting fuel h (Miss t l s why) f = asked t fuel (own_of t h) s f.next.1
  fitting fuel h (End t Done) f = tt
  fitting fuel h (End t (Trapped trap)) f = ended t fuel (own_of t h) trap f.next.1
  fitting fuel h (End t Spent) f = tt
  fitting fuel h (Break set t) f = tt
  fitting fuel h (Learn births) f = tt
