-- The plain instructions that come next.
use Rattle.std.proofs.Common.{◌≡◌, ℕ, zero, suc, ◌+◌, refl, ap, sym, ◌∙◌, subst, inl, inr, ◌⊎◌, List, arith}
use Rattle.dim_asm.specs.Code.{Code}
use Rattle.dim_vm.specs.declared.context.Context.{Context}
use Rattle.dim_vm.specs.Table.{Next, Plain, Ends, Wants, Retakes, Frees, Tries, next}
use Rattle.dim_vm.specs.declared.state.State.{State}
use Rattle.dim_vm.specs.declared.state.State.TheVariants.{Running, Waits, Yields, Ended}
use Rattle.dim_vm.specs.Configuration.{Configuration, Course, course, course_by, with_course, rested, rested_in}
use Rattle.dim_vm.specs.Places.{ArePlain, IsOther, IsCourse, CourseLaw}

-- a course goes no further where the next thing isn't plain
stays : (q : Next) (onwards : Context → Course) (here : Course) → IsOther q → course_by q onwards here ≡ here
stays (Plain b) onwards here o = absurd o
stays (Ends why) onwards here o = refl
stays (Wants l after) onwards here o = refl
stays (Retakes l after) onwards here o = refl
stays (Frees l after) onwards here o = refl
stays (Tries l took missed) onwards here o = refl

module _ (p : Code) (holds : List ℕ) where
  ended : (n : ℕ) (b : Context) → IsOther (next p holds b) → IsCourse p holds (suc n) b (record { units = suc n; context = b })
  ended n b o = record { made = 0; paid = omega arith; plain = refl; over = inr o }

  taken_by : (n : ℕ) (b : Context) (q : Next) → next p holds b ≡ q → ((c : Context) → IsCourse p holds n c (course p holds n c))
      → IsCourse p holds (suc n) b (course_by q (course p holds n) (record { units = suc n; context = b }))
  taken_by n b (Plain c) e on = let k = on c in record { made = suc k.made; paid = let i = k.paid in omega (arith, i); plain = (c, e, k.plain); over = k.over }
  taken_by n b (Ends why) e on = ended n b (subst IsOther (sym e) tt)
  taken_by n b (Wants l after) e on = ended n b (subst IsOther (sym e) tt)
  taken_by n b (Retakes l after) e on = ended n b (subst IsOther (sym e) tt)
  taken_by n b (Frees l after) e on = ended n b (subst IsOther (sym e) tt)
  taken_by n b (Tries l took missed) e on = ended n b (subst IsOther (sym e) tt)

  taken : (units : ℕ) (b : Context) → IsCourse p holds units b (course p holds units b)
  taken zero b = record { made = 0; paid = refl; plain = refl; over = inl refl }
  taken (suc n) b = taken_by n b (next p holds b) refl (taken n)

  same : (units : ℕ) (b : Context) (r : Course) → units ≡ r.units → r.context ≡ b → record { units = units; context = b } ≡ r
  same units b r u c = ap (λ x. record { units = x; context = b }) u ∙ ap (λ (x : Context). record { units = r.units; context = x }) (sym c)

  only : (units made : ℕ) (b : Context) (r : Course) → made + r.units ≡ units → ArePlain p holds made b r.context → (r.units ≡ 0) ⊎ IsOther (next p holds r.context) → course p holds units b ≡ r
  only zero zero b r paid plain over = same 0 b r (omega (arith, paid)) plain
  only zero (suc m) b r paid plain over = absurd (omega (arith, paid))
  only (suc n) zero b r paid plain (inl none) = absurd (omega (arith, paid, none))
  only (suc n) zero b r paid plain (inr other) =
      stays (next p holds b) (course p holds n) (record { units = suc n; context = b }) (subst (λ (x : Context). IsOther (next p holds x)) plain other) ∙ same (suc n) b r (omega (arith, paid)) plain
  only (suc n) (suc m) b r paid plain over =
      ap (λ (q : Next). course_by q (course p holds n) (record { units = suc n; context = b })) plain.1 ∙ only n m plain.0 r (omega (arith, paid)) plain.2 over

pub course_law : CourseLaw
course_law p holds units b r = (
  λ is. subst (IsCourse p holds units b) is (taken p holds units b),
  λ k. only p holds units k.made b r k.paid k.plain k.over,
)

-- no plain instruction comes next behind those that do
course_again : (p : Code) (holds : List ℕ) (units : ℕ) (b : Context) → course p holds (course p holds units b).units (course p holds units b).context ≡ course p holds units b
course_again p holds units b =
    let r : Course = course p holds units b in
    only p holds r.units 0 r.context r (omega arith) refl (taken p holds units b).over

again_in : (p : Code) (c : Configuration) (s : State) → c.state ≡ s → rested p (rested_in p c s) ≡ rested_in p c s
again_in p c Running e =
    ap (rested_in p (with_course c (course p c.holds c.units c.context))) e
    ∙ ap (with_course c) (course_again p c.holds c.units c.context)
again_in p c (Waits l) e = ap (rested_in p c) e
again_in p c (Yields l) e = ap (rested_in p c) e
again_in p c (Ended why) e = ap (rested_in p c) e

pub rested_again : (p : Code) (c : Configuration) → rested p (rested p c) ≡ rested p c
rested_again p c = again_in p c c.state refl
