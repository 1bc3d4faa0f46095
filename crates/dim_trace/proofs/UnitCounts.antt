-- In a walk no more entries have a stack than all threads have units.
use Rattle.std.proofs.Common.{◌≡◌, ℕ, zero, suc, ◌+◌, ◌*◌, ◌<◌, ◌≤◌, true, false, eqb, refl, ap, sym, ◌∙◌, subst, inl, inr, arith, List, [], ◌∷◌, Some, None}
use Rattle.std.specs.Prelude.{sum_by, if◌then◌else◌}
use Rattle.std.proofs.lemmas.Bool.{cases_Bool, cases_lt, eqb-true, eq-eqb}
use Rattle.std.proofs.lemmas.List.Sums.{sum_by-cons}
use Rattle.dim_base.specs.declared.Tid.{Tid}
use Rattle.dim_asm.specs.Code.{Code}
use Rattle.dim_rag.specs.declared.entry.Entry.{Entry}
use Rattle.dim_rag.specs.declared.entry.Entry.TheVariants.{Go, Yield, Got, Free, Took, Miss, End, Break, Learn}
use Rattle.dim_rag.specs.Fits.{IsInRange, AreInRange}
use Rattle.dim_rag.specs.Tables.{caller_of}
use Rattle.dim_vm.specs.declared.context.Context.{Context}
use Rattle.dim_vm.specs.declared.state.State.{State}
use Rattle.dim_vm.specs.declared.state.State.TheVariants.{Running, Waits, Yields, Ended}
use Rattle.dim_vm.specs.Table.{Next, Plain, Ends, Wants, Retakes, Frees, Tries, next}
use Rattle.dim_vm.specs.Configuration.{Configuration, Course, course, course_by, next_of, start, rested_in, moved, moved_by, led}
use Rattle.dim_vm.specs.Walks.{Walks, FitsCaller, is_by, own_of, configuration}

-- whether an entry has a stack: then its thread pays a unit for it
abbrev pub cost : Entry → ℕ
cost (Go t l s) = 1
cost (Yield t l s sig births) = 1
cost (Took t l s) = 1
cost (Miss t l s why) = 1
cost _ = 0

-- ---- sums over the first n threads
abbrev total : (ℕ → ℕ) → ℕ → ℕ
total f zero = 0
total f (suc n) = total f n + f n

total_less : (f g : ℕ → ℕ) (n : ℕ) → ((t : ℕ) → g t ≤ f t) → total g n ≤ total f n
total_less f g zero h = omega arith
total_less f g (suc n) h = let i : total g n ≤ total f n = total_less f g n h in omega (arith, i, h n)

-- where one of them is less by so many
total_one : (f g : ℕ → ℕ) (k t n : ℕ) → t < n → g t + k ≤ f t → ((u : ℕ) → g u ≤ f u) → total g n + k ≤ total f n
total_one f g k t zero low one h = absurd (omega (arith, low))
total_one f g k t (suc n) low one h = elim (cases_lt t n) [
  | inl less ↦ let i : total g n + k ≤ total f n = total_one f g k t n less one h in omega (arith, i, h n)
  | inr more ↦
      let e : t ≡ n = omega (arith, low, more) in
      let i : total g n ≤ total f n = total_less f g n h in
      let j : g n + k ≤ f n = subst (λ (u : ℕ). g u + k ≤ f u) e one in
      omega (arith, i, j)
]

total_few : (f : ℕ → ℕ) (n : ℕ) → ((t : ℕ) → f t ≤ 8192) → total f n ≤ 8192 * n
total_few f zero h = omega arith
total_few f (suc n) h = let i : total f n ≤ 8192 * n = total_few f n h in omega (arith, i, h n)

module _ (p : Code) where
  -- ---- units are never more
  by_less : (n : Next) (onwards : Context → Course) (here : Course) (m : ℕ) → ((x : Context) → (onwards x).units ≤ m) → here.units ≤ suc m → (course_by n onwards here).units ≤ suc m
  by_less (Plain b) onwards here m f h = omega (arith, f b)
  by_less (Ends why) onwards here m f h = h
  by_less (Wants l after) onwards here m f h = h
  by_less (Retakes l after) onwards here m f h = h
  by_less (Frees l after) onwards here m f h = h
  by_less (Tries l took miss) onwards here m f h = h

  course_less : (holds : List ℕ) (units : ℕ) (b : Context) → (course p holds units b).units ≤ units
  course_less holds zero b = omega arith
  course_less holds (suc n) b = by_less (next p holds b) (course p holds n) (record { units = suc n; context = b }) n (course_less holds n) (omega arith)

  rested_less : (c : Configuration) (s : State) → (rested_in p c s).units ≤ c.units
  rested_less c Running = course_less c.holds c.units c.context
  rested_less c (Waits l) = omega arith
  rested_less c (Yields l) = omega arith
  rested_less c (Ended why) = omega arith

  moved_less : (c : Configuration) (e : Entry) (n : Next) → cost e ≤ c.units → (moved_by c e n).units + cost e ≤ c.units
  moved_less c (Go t l s) n h = omega (arith, h)
  moved_less c (Yield t l s sig births) n h = omega (arith, h)
  moved_less c (Got t l) n h = omega arith
  moved_less c (Free t l) n h = omega arith
  moved_less c (Took t l s) n h = omega (arith, h)
  moved_less c (Miss t l s why) n h = omega (arith, h)
  moved_less c (End t why) n h = omega arith
  moved_less c (Break set t) n h = omega arith
  moved_less c (Learn births) n h = omega arith

  module _ (fuel : ℕ) where
    -- the units of t after h
    abbrev units_of : List Entry → ℕ → ℕ
    units_of h t = (configuration p fuel (record { 0 = t }) h).units

    led_less : (t : Tid) (e : Entry) (own : List Entry) → cost e ≤ (led p t fuel own).units → (led p t fuel (e ∷ own)).units + cost e ≤ (led p t fuel own).units
    led_less t e own h =
        let c = led p t fuel own in
        let d = moved p c e in
        let i : d.units + cost e ≤ c.units = moved_less c e (next_of p c) h in
        let j : (rested_in p d d.state).units ≤ d.units = rested_less d d.state in
        omega (arith, i, j)

    -- an entry of another thread, and one of its own
    other : (t : Tid) (e : Entry) (h : List Entry) → is_by t (caller_of e) ≡ false → own_of t (e ∷ h) ≡ own_of t h
    other t e h is = ap (λ b. if b then e ∷ own_of t h else own_of t h) is

    own : (t : Tid) (e : Entry) (h : List Entry) → is_by t (caller_of e) ≡ true → own_of t (e ∷ h) ≡ e ∷ own_of t h
    own t e h is = ap (λ b. if b then e ∷ own_of t h else own_of t h) is

    own_less : (t : Tid) (e : Entry) (h : List Entry) → is_by t (caller_of e) ≡ true → cost e ≤ units_of h t.0 → units_of (e ∷ h) t.0 + cost e ≤ units_of h t.0
    own_less t e h is pays = subst (λ (es : List Entry). (led p t fuel es).units + cost e ≤ units_of h t.0) (sym (own t e h is)) (led_less t e (own_of t h) pays)

    other_same : (t : Tid) (e : Entry) (h : List Entry) → is_by t (caller_of e) ≡ false → units_of (e ∷ h) t.0 ≡ units_of h t.0
    other_same t e h is = ap (λ es. (led p t fuel es).units) (other t e h is)

    -- an entry of t
    by_thread : (n : ℕ) (e : Entry) (h : List Entry) (t : Tid) → caller_of e ≡ Some t → t.0 < n → cost e ≤ units_of h t.0 → cost e + total (units_of (e ∷ h)) n ≤ total (units_of h) n
    by_thread n e h t is low pays =
        let of_own : is_by t (caller_of e) ≡ true = ap (is_by t) is ∙ eq-eqb t.0 t.0 refl in
        let one = own_less t e h of_own pays in
        let each : (u : ℕ) → units_of (e ∷ h) u ≤ units_of h u = λ u. elim (cases_Bool (eqb t.0 u)) [
          | inl q ↦ let same : t.0 ≡ u = eqb-true t.0 u q in subst (λ (v : ℕ). units_of (e ∷ h) v ≤ units_of h v) same (omega (arith, one))
          | inr q ↦ let same : units_of (e ∷ h) u ≡ units_of h u = other_same (record { 0 = u }) e h (ap (is_by (record { 0 = u })) is ∙ q) in omega (arith, same)
        ] in
        let sum : total (units_of (e ∷ h)) n + cost e ≤ total (units_of h) n = total_one (units_of h) (units_of (e ∷ h)) (cost e) t.0 n low one each in
        omega (arith, sum)

    -- one of the tender
    by_none : (n : ℕ) (e : Entry) (h : List Entry) → caller_of e ≡ None → cost e ≡ 0 → cost e + total (units_of (e ∷ h)) n ≤ total (units_of h) n
    by_none n e h is free =
        let each : (u : ℕ) → units_of (e ∷ h) u ≤ units_of h u = λ u. let same : units_of (e ∷ h) u ≡ units_of h u = other_same (record { 0 = u }) e h (ap (is_by (record { 0 = u })) is) in omega (arith, same) in
        let sum : total (units_of (e ∷ h)) n ≤ total (units_of h) n = total_less (units_of h) (units_of (e ∷ h)) n each in
        omega (arith, sum, free)

    step : (n m : ℕ) (e : Entry) (h : List Entry) → FitsCaller p fuel h e (caller_of e) → IsInRange n m e → cost e + total (units_of (e ∷ h)) n ≤ total (units_of h) n
    step n m (Go t l s) h f r = by_thread n (Go t l s) h t refl r.0 (omega (arith, f.next.0))
    step n m (Yield t l s sig births) h f r = by_thread n (Yield t l s sig births) h t refl r.0 (omega (arith, f.next.0))
    step n m (Got t l) h f r = by_thread n (Got t l) h t refl r.0 (omega arith)
    step n m (Free t l) h f r = by_thread n (Free t l) h t refl r.0 (omega arith)
    step n m (Took t l s) h f r = by_thread n (Took t l s) h t refl r.0 (omega (arith, f.next.0))
    step n m (Miss t l s why) h f r = by_thread n (Miss t l s why) h t refl r.0 (omega (arith, f.next.0))
    step n m (End t why) h f r = by_thread n (End t why) h t refl r (omega arith)
    step n m (Break set t) h f r = by_none n (Break set t) h refl refl
    step n m (Learn births) h f r = by_none n (Learn births) h refl refl

    spent : (n m : ℕ) (h : List Entry) → Walks p fuel h → AreInRange n m h → sum_by cost h + total (units_of h) n ≤ total (units_of []) n
    spent n m [] w r = omega arith
    spent n m (e ∷ h) w r =
        let i : sum_by cost h + total (units_of h) n ≤ total (units_of []) n = spent n m h w.1 r.1 in
        let j = step n m e h w.0 r.0 in
        omega (arith, i, j, sum_by-cons cost e h)

    at_start : (t : ℕ) → fuel ≤ 8192 → units_of [] t ≤ 8192
    at_start t few = let i : units_of [] t ≤ fuel = rested_less (start p (record { 0 = t }) fuel) Running in omega (arith, i, few)

    -- so many entries have a stack, at most
    pub few_stacks : (n m : ℕ) (h : List Entry) → fuel ≤ 8192 → n ≤ 32 → Walks p fuel h → AreInRange n m h → sum_by cost h ≤ 262144
    few_stacks n m h few threads w r =
        let i = spent n m h w r in
        let j : total (units_of []) n ≤ 8192 * n = total_few (units_of []) n (λ t. at_start t few) in
        omega (arith, i, j, threads)
