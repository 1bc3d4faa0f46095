-- The callers of a turn at its start.
use Rattle.std.proofs.Common.{◌≡◌, ℕ, zero, suc, ◌+◌, ◌<◌, ◌≤◌, Bool, false, refl, ap, ap₂, sym, ◌∙◌, subst, inl, inr, List, [], ◌∷◌, length, map, get_or, replicate, arith}
use Rattle.std.specs.Prelude.{All, Option, Some, None, if◌then◌else◌, slice_get}
use Rattle.std.specs.Option.{option_map}
use Rattle.std.proofs.lemmas.Option.{same_Some, slice_get-get_or, slice_get-map}
use Rattle.std.proofs.lemmas.Bool.{cases_lt}
use Rattle.std.proofs.lemmas.List.{get_or-replicate, get_or_past, length-replicate}
use Rattle.dim_base.specs.declared.Lid.{Lid}
use Rattle.dim_stack.specs.declared.Frame.{Frame}
use Rattle.dim_rag.specs.declared.entry.Entry.{Entry}
use Rattle.dim_rag.specs.History.{past, mode}
use Rattle.dim_run.specs.Callers.{Opening, Known, IsCaller}
use Rattle.dim_mutex.specs.Standing.{IsIdle, held_below, holds_at, all_locks}
use Rattle.dim_mutex.specs.Views.{fresh}
use Rattle.dim_mutex.specs.Holdings.{AreHoldings, KeepsHoldings}

held_none : (n : ℕ) (f : ℕ → Bool) → ((i : ℕ) → f i ≡ false) → held_below n f ≡ 0
held_none zero f each = refl
held_none (suc n) f each = ap₂ (λ (x : ℕ) (b : Bool). x + (if b then 1 else 0)) (held_none n f each) (each n)

-- in a list of falses there is no true
none_set : (n m : ℕ) → get_or (replicate n false) m false ≡ false
none_set n m = elim (cases_lt m n) [
  | inl lt ↦ get_or-replicate n m false false lt
  | inr le ↦ get_or_past (replicate n false) m false (subst (λ (x : ℕ). x ≤ m) (sym (length-replicate n false)) le)
]

-- who has nothing of a history holds nothing and waits for nothing
pub none_held_yet : (k : Known) (l : Lid) (s : List Frame) → k.seen ≡ [] → KeepsHoldings k (record { held = replicate 256 false; owed = 0; wants = false; lock = l; stack = s })
none_held_yet k l s empty = record {
  are = subst (λ (x : List Entry). AreHoldings k.number (past x) (record { held = replicate 256 false; owed = 0; wants = false; lock = l; stack = s })) (sym empty) record {
    size = length-replicate 256 false;
    counts = λ m. ap (λ (b : Bool). if b then 1 else 0) (sym (none_set 256 m));
    owed_is = sym (held_none all_locks (λ m. holds_at k.number m []) (λ m. refl));
    wanted_is = refl;
    running = refl;
  };
  room = omega arith;
}

-- a caller whose turn starts is one of its callers
pub fresh_caller : (o : Opening) (i allowance : ℕ) → i < o.callers → IsCaller o (fresh o i allowance)
fresh_caller o i allowance low = record { low = low; led = record { made = []; longer = refl; adds = tt; own = refl } }

-- and where the history is empty it is idle
pub fresh_idle : (o : Opening) (i allowance : ℕ) → o.history ≡ [] → IsIdle (fresh o i allowance)
fresh_idle o i allowance empty = record {
  runs = ap (λ (h : List Entry). mode i (past h)) empty;
  free = λ l. ap (λ (h : List Entry). holds_at i l (past h)) empty;
}

-- what one knows whose turn starts
pub known_fresh : (k : Known) (n : ℕ) (h : List Entry) (left : ℕ) → k.number ≡ n → k.seen ≡ h → k.mine ≡ [] → k.left ≡ left → k ≡ record { number = n; seen = h; mine = []; left = left }
known_fresh k n h left a b c d i = record { number = a i; seen = b i; mine = c i; left = d i }

-- what holds of each element, by its place, holds of each of the elements that a function makes
pub mapped : {A B : Type 0} (f : A → B) (P : ℕ → B → Type 0) (xs : List A) → ((i : ℕ) (x : A) → slice_get xs i ≡ Some x → P i (f x))
    → (i : ℕ) (y : B) → slice_get (map f xs) i ≡ Some y → P i y
mapped {A} {B} f P xs each i y at = by (slice_get xs i) refl (sym (slice_get-map f xs i) ∙ at)
  where
    by : (o : Option A) → slice_get xs i ≡ o → option_map f o ≡ Some y → P i y
    by (Some x) q e = subst (P i) (same_Some (f x) y e) (each i x q)
    by None q e = absurd (let z : None ≡ Some y = e in cc)

pub mapped_at : {A B : Type 0} (f : A → B) (xs : List A) (i : ℕ) (x : A) → slice_get xs i ≡ Some x → slice_get (map f xs) i ≡ Some (f x)
mapped_at f xs i x at = slice_get-map f xs i ∙ ap (option_map f) at

-- and of each by `All`
pub all_from : {A : Type 0} (P : A → Type 0) (xs : List A) → ((i : ℕ) (x : A) → slice_get xs i ≡ Some x → P x) → All P xs
all_from P xs each k d low = each k (get_or xs k d) (slice_get-get_or xs k d low)

-- a place in a list has an element
pub found : {A : Type 0} (xs : List A) (i : ℕ) → i < length xs → (x : A) × (slice_get xs i ≡ Some x)
found [] i low = absurd (omega (arith, low))
found (x ∷ xs) zero low = (x, refl)
found (x ∷ xs) (suc i) low = found xs i (omega (arith, low))
