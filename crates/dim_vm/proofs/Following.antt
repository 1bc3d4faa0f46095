-- When a step is one about a lock.
use Rattle.std.proofs.Common.{◌≡◌, pos, ◌↔◌, Bool, true, eq-eqb, nat_eq, refl, ap, sym, subst, ◌∙◌, IsTrue}
use Rattle.std.proofs.lemmas.Bool.{eqb-true}
use Rattle.dim_base.specs.declared.Lid.{Lid}
use Rattle.dim_vm.specs.declared.context.Context.{Context}
use Rattle.dim_vm.specs.declared.step.Step.{Step}
use Rattle.dim_vm.specs.declared.step.Step.TheVariants as step
use Rattle.dim_vm.specs.Table.{Wants, Retakes, Frees, Tries, on, pushed}
use Rattle.dim_vm.specs.Steps.{told_by, gone}
use Rattle.dim_vm.specs.Fitting.{IsWanting, IsRetaking, IsFreeing, IsTrying}

same_lock : (a b : Lid) → nat_eq a.0 b.0 ≡ true → a ≡ b
same_lock a b q = ap (λ n. record { 0 = n }) (eqb-true a.0 b.0 q)

module _ (b : Context) (s : Step) (l m : Lid) (r : Bool) where
  -- a step that is to take m takes l where these are one; likewise to take it once more, to free it, and to try it
  pub wanting_is : (drops : Bool) → s ≡ step.Wants m drops → r ≡ nat_eq m.0 l.0 → IsTrue r ↔ IsWanting l (told_by b s b)
  wanting_is drops is e =
      subst (λ (x : Step). IsTrue r ↔ IsWanting l (told_by b x b)) (sym is)
      (λ q. (gone drops b, ap (λ (x : Lid). Wants x (gone drops b)) (same_lock m l (sym e ∙ q))), λ w. (let k : Wants m (gone drops b) ≡ Wants l w.0 = w.1 in let n : m ≡ l = cc in e ∙ eq-eqb m.0 l.0 (ap (λ (x : Lid). x.0) n)))

  pub retaking_is : (drops : Bool) → s ≡ step.Retakes m drops → r ≡ nat_eq m.0 l.0 → IsTrue r ↔ IsRetaking l (told_by b s b)
  retaking_is drops is e =
      subst (λ (x : Step). IsTrue r ↔ IsRetaking l (told_by b x b)) (sym is)
      (λ q. (gone drops b, ap (λ (x : Lid). Retakes x (gone drops b)) (same_lock m l (sym e ∙ q))), λ w. (let k : Retakes m (gone drops b) ≡ Retakes l w.0 = w.1 in let n : m ≡ l = cc in e ∙ eq-eqb m.0 l.0 (ap (λ (x : Lid). x.0) n)))

  pub freeing_is : (drops : Bool) → s ≡ step.Frees m drops → r ≡ nat_eq m.0 l.0 → IsTrue r ↔ IsFreeing l (told_by b s b)
  freeing_is drops is e =
      subst (λ (x : Step). IsTrue r ↔ IsFreeing l (told_by b x b)) (sym is)
      (λ q. (gone drops b, ap (λ (x : Lid). Frees x (gone drops b)) (same_lock m l (sym e ∙ q))), λ w. (let k : Frees m (gone drops b) ≡ Frees l w.0 = w.1 in let n : m ≡ l = cc in e ∙ eq-eqb m.0 l.0 (ap (λ (x : Lid). x.0) n)))

  pub trying_is : s ≡ step.Tries m → r ≡ nat_eq m.0 l.0 → IsTrue r ↔ IsTrying l (told_by b s b)
  trying_is is e =
      subst (λ (x : Step). IsTrue r ↔ IsTrying l (told_by b x b)) (sym is)
      (λ q. (on (pushed (pos 1) b), on (pushed (pos 0) b), ap (λ (x : Lid). Tries x (on (pushed (pos 1) b)) (on (pushed (pos 0) b))) (same_lock m l (sym e ∙ q))), λ w. (let k : Tries m (on (pushed (pos 1) b)) (on (pushed (pos 0) b)) ≡ Tries l w.0 w.1 = w.2 in let n : m ≡ l = cc in e ∙ eq-eqb m.0 l.0 (ap (λ (x : Lid). x.0) n)))

-- a step that is to take a lock
pub at_lock : (b : Context) (s : Step) (m : Lid) (drops : Bool) → s ≡ step.Wants m drops → (l : Lid) × IsWanting l (told_by b s b)
at_lock b s m drops is = subst (λ (x : Step). (l : Lid) × IsWanting l (told_by b x b)) (sym is) (m, (gone drops b, refl))
