-- What is known of the next thing, by the table.
use Rattle.std.proofs.Common.{◌≡◌, ◌≢◌, ℕ, ◌<◌, ◌≤◌, ◌+◌, nat_lt, length, Bool, true, false, if◌then◌else◌, List, [], ◌∷◌, refl, subst, arith, Option, Some, None, ℤ, pos, negsuc, Result, Ok, Err}
use Rattle.std.specs.Prelude.{⊤, IfOk}
use Rattle.std.proofs.lemmas.Bool.{ltb-true, ltb-false}
use Rattle.dim_base.specs.declared.Lid.{Lid}
use Rattle.dim_asm.specs.Code.{Code, op_at, lock_count, func_count, IsFine}
use Rattle.dim_asm.specs.declared.op.Op.{Op}
use Rattle.dim_asm.specs.declared.op.Op.TheVariants as op
use Rattle.dim_rag.specs.declared.entry.Why.TheVariants.{Done, Trapped, Spent}
use Rattle.dim_vm.specs.declared.trap.Trap.{Trap}
use Rattle.dim_vm.specs.declared.context.Context.{Context}
use Rattle.dim_vm.specs.Trap.{◌>>=◌, number}
use Rattle.dim_vm.specs.Frames.{top_frame, local, enter}
use Rattle.dim_vm.specs.Operands.{top, push, pop, duplicate, swap, calculate, sum, difference, is_less, is_equal, is_zero, lock_operand, lock_number}
use Rattle.dim_vm.specs.Table.{Next, Plain, Ends, Wants, Retakes, Frees, Tries, times, next, row, row_at, row_here, ended_by, operated, has_local, jump, on, dropped, lock_next, unlock_next}
use Rattle.dim_vm.specs.declared.step.Step.{Step}
use Rattle.dim_vm.specs.Steps.{IsFound, IsFree, IsAgain, IsHeld, IsOpen, IsRow, told_by}

-- what the table knows of the next thing, and what is known of each lock
abbrev pub Knows : (Lid → Type 0) → List ℕ → Context → Next → Type 0
Knows Low holds b (Plain b') = b'.said ≤ b.said + 1
Knows Low holds b (Ends why) = why ≢ Spent
Knows Low holds b (Wants l after) = Low l × IsFree (times holds l.0)
Knows Low holds b (Retakes l after) = Low l × IsAgain (times holds l.0)
Knows Low holds b (Frees l after) = Low l × IsHeld (times holds l.0)
Knows Low holds b (Tries l took missed) = Low l × IsOpen (times holds l.0) × (length b.operands < 256)

abbrev pub KnowsRow : (Lid → Type 0) → List ℕ → Context → Result Next Trap → Type 0
KnowsRow Low holds b (Ok n) = Knows Low holds b n
KnowsRow Low holds b (Err k) = ⊤

-- the lock that an instruction names
abbrev pub NamesLow : (Lid → Type 0) → Op → Type 0
NamesLow Low (op.Lock l) = Low l
NamesLow Low (op.Unlock l) = Low l
NamesLow Low (op.TryLock l) = Low l
NamesLow Low _ = ⊤

low_number : (locks : ℕ) (n : ℤ) (l : Lid) → lock_number locks n ≡ Ok l → l.0 < locks
low_number locks (pos n) l e = grind (arith, ltb-true)
low_number locks (negsuc n) l e = cc

low_operand : (locks : ℕ) (ns : List ℤ) (l : Lid) → lock_operand locks ns ≡ Ok l → l.0 < locks
low_operand locks [] l e = cc
low_operand locks (n ∷ ns) l e = low_number locks n l e

-- how often a lock is held, by tests
held_of : (n : ℕ) → nat_lt 0 n ≡ true → IsHeld n
held_of n e = let k : 0 < n = ltb-true 0 n e in omega (arith, k)

free_of : (n : ℕ) → nat_lt 0 n ≡ false → IsFree n
free_of n e = let k : n ≤ 0 = ltb-false 0 n e in omega (arith, k)

open_of : (n : ℕ) → nat_lt n 255 ≡ true → IsOpen n
open_of n e = ltb-true n 255 e

module _ (p : Code) (holds : List ℕ) (b : Context) (Low : Lid → Type 0) (low : (l : Lid) → l.0 < lock_count p → Low l) where
  in_bind : {A : Type 0} (r : Result A Trap) (f : A → Result Next Trap) → ((x : A) → r ≡ Ok x → KnowsRow Low holds b (f x)) → KnowsRow Low holds b (r >>= f)
  in_bind (Ok x) f h = h x refl
  in_bind (Err k) f h = tt

  in_if : (c : Bool) (x y : Result Next Trap) → (c ≡ true → KnowsRow Low holds b x) → (c ≡ false → KnowsRow Low holds b y) → KnowsRow Low holds b (if c then x else y)
  in_if true x y f g = f refl
  in_if false x y f g = g refl

  in_operated : (r : Result (List ℤ) Trap) → KnowsRow Low holds b (operated b r)
  in_operated r = in_bind r _ (λ ns e. omega arith)

  in_jump : (c : Bool) (k : ℕ) → (if c then jump k (dropped b) else on (dropped b)).said ≤ b.said + 1
  in_jump true k = omega arith
  in_jump false k = omega arith

  in_return : (c : Bool) (x : Context) → x.said ≤ b.said + 1 → Knows Low holds b (if c then Plain x else Ends Done)
  in_return true x h = h
  in_return false x h = λ (e : Done ≡ Spent). cc

  of_operand : (f : Lid → Result Next Trap) → ((l : Lid) → Low l → KnowsRow Low holds b (f l)) → KnowsRow Low holds b (lock_operand (lock_count p) b.operands >>= f)
  of_operand f h = in_bind (lock_operand (lock_count p) b.operands) f (λ l e. h l (low l (low_operand (lock_count p) b.operands l e)))

  in_lock : (l : Lid) (after : Context) → Low l → KnowsRow Low holds b (lock_next holds l after)
  in_lock l after x =
      in_if (nat_lt (times holds l.0) 255) _ _
      (λ few. in_if (nat_lt 0 (times holds l.0)) _ _ (λ e. (x, (held_of (times holds l.0) e, open_of (times holds l.0) few))) (λ e. (x, free_of (times holds l.0) e)))
      (λ e. tt)

  in_unlock : (l : Lid) (after : Context) → Low l → KnowsRow Low holds b (unlock_next holds l after)
  in_unlock l after x = in_if (nat_lt 0 (times holds l.0)) _ _ (λ e. (x, held_of (times holds l.0) e)) (λ e. tt)

  pub row_known : (o : Op) → NamesLow Low o → KnowsRow Low holds b (row p holds b o)
  row_known (op.Push n) h = in_operated (push n b.operands)
  row_known op.Pop h = in_operated (pop b.operands)
  row_known op.Dup h = in_operated (duplicate b.operands)
  row_known op.Swap h = in_operated (swap b.operands)
  row_known op.Add h = in_operated (calculate sum b.operands)
  row_known op.Sub h = in_operated (calculate difference b.operands)
  row_known op.Lt h = in_operated (calculate is_less b.operands)
  row_known op.Eq h = in_operated (calculate is_equal b.operands)
  row_known (op.Jmp k) h = omega arith
  row_known (op.Jz k) h = in_bind (top b.operands) _ (λ n e. in_jump (is_zero n) k)
  row_known (op.GetL i) h = in_bind (has_local p i b) _ (λ u e. in_operated (push (local i b.frames) b.operands))
  row_known (op.PutL i) h = in_bind (has_local p i b) _ (λ u e. in_bind (top b.operands) _ (λ n x. omega arith))
  row_known (op.Call f) h = in_bind (enter f b.frames) _ (λ fs e. omega arith)
  row_known op.Ret h = in_return (nat_lt 1 (length b.frames)) _ (omega arith)
  row_known (op.Lock l) h = in_lock l (on b) h
  row_known op.LockX h = of_operand _ (λ l x. in_lock l (on (dropped b)) x)
  row_known (op.Unlock l) h = in_unlock l (on b) h
  row_known op.UnlockX h = of_operand _ (λ l x. in_unlock l (on (dropped b)) x)
  row_known (op.TryLock l) h =
      in_if (nat_lt (times holds l.0) 255) _ _
      (λ few. in_if (nat_lt (length b.operands) 256) _ _ (λ x. (h, open_of (times holds l.0) few, ltb-true (length b.operands) 256 x)) (λ x. tt))
      (λ e. tt)
  row_known op.Say h = in_bind (top b.operands) _ (λ n e. omega arith)
  row_known op.Halt h = λ (e : Done ≡ Spent). cc

  at_known : (o : Option Op) → ((x : Op) → o ≡ Some x → NamesLow Low x) → KnowsRow Low holds b (row_at p holds b o)
  at_known None h = tt
  at_known (Some x) h = row_known x (h x refl)

  ended_known : (r : Result Next Trap) → KnowsRow Low holds b r → Knows Low holds b (ended_by r)
  ended_known (Ok n) h = h
  ended_known (Err k) h = λ (e : Trapped (number k) ≡ Spent). cc

  next_known : ((o : Op) → op_at p (top_frame b.frames).func (top_frame b.frames).at ≡ Some o → NamesLow Low o) → Knows Low holds b (next p holds b)
  next_known h = ended_known (row_here p holds b) (at_known (op_at p (top_frame b.frames).func (top_frame b.frames).at) h)

any_lock : (o : Op) → NamesLow (λ l. ⊤) o
any_lock (op.Lock l) = tt
any_lock (op.Unlock l) = tt
any_lock (op.TryLock l) = tt
any_lock _ = tt

-- a lock that is to be taken once more is held
pub next_held : (p : Code) (holds : List ℕ) (b : Context) (l : Lid) (after : Context) → next p holds b ≡ Retakes l after → 1 ≤ times holds l.0
next_held p holds b l after e = (subst (Knows (λ x. ⊤) holds b) e (next_known p holds b (λ x. ⊤) (λ x h. tt) (λ o q. any_lock o))).1.0

fine_lock : (locks funcs : ℕ) (o : Op) → IsFine locks funcs o → NamesLow (λ l. l.0 < locks) o
fine_lock locks funcs (op.Lock l) h = h
fine_lock locks funcs (op.Unlock l) h = h
fine_lock locks funcs (op.TryLock l) h = h
fine_lock locks funcs _ h = tt

-- what is known at an offset of the program
found_by : (p : Code) (holds : List ℕ) (b : Context) (n : Next) → lock_count p ≤ 256 → (top_frame b.frames).at < 65536 → Knows (λ l. l.0 < lock_count p) holds b n → IsFound p holds b n
found_by p holds b (Plain b') few at h = h
found_by p holds b (Ends why) few at h = h
found_by p holds b (Wants l after) few at h = record { in_range = h.0; low = omega (arith, h.0); held = h.1; at = at }
found_by p holds b (Retakes l after) few at h = record { in_range = h.0; low = omega (arith, h.0); held = h.1; at = at }
found_by p holds b (Frees l after) few at h = record { in_range = h.0; low = omega (arith, h.0); held = h.1; at = at }
found_by p holds b (Tries l took missed) few at h = (record { in_range = h.0; low = omega (arith, h.0); held = h.1; at = at }, h.2)

-- what a row has found that came to n
pub row_found : (p : Code) (holds : List ℕ) (b : Context) (o : Op) (n : Next) → lock_count p ≤ 256 → (top_frame b.frames).at < 65536 → IsFine (lock_count p) (func_count p) o → row p holds b o ≡ Ok n → IsFound p holds b n
row_found p holds b o n few at fine e =
    found_by p holds b n few at
    (subst (KnowsRow (λ l. l.0 < lock_count p) holds b) e (row_known p holds b (λ l. l.0 < lock_count p) (λ l h. h) o (fine_lock (lock_count p) (func_count p) o fine)))

pub row_finds : (p : Code) (holds : List ℕ) (b : Context) (o : Op) (r : Result Step Trap) (b' : Context) → lock_count p ≤ 256 → (top_frame b.frames).at < 65536 → IsFine (lock_count p) (func_count p) o
    → IsRow b (row p holds b o) r b' → IfOk r (λ s. IsFound p holds b (told_by b s b'))
row_finds p holds b o (Ok s) b' few at fine h = row_found p holds b o (told_by b s b') few at fine h.0
row_finds p holds b o (Err k) b' few at fine h = tt
