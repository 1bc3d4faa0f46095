use Rattle.std.proofs.Common.{◌≡◌, ℕ, ◌-◌, suc, false, drop, sym, ap, subst, ◌∙◌, arith, eq-eqb}
use Rattle.dim_orders.specs.declared.hold.Hold.{Hold}
use Rattle.dim_orders.specs.Holding.{holds, let_go}
use Rattle.dim_orders.proofs.HoldLemmas.{let_go_none, let_go_at}
use Rattle.dim_orders.proofs.hold.free.Goals as goal

pub returns-then-index-lock : goal.returns-then-index-lock
returns-then-index-lock c =
    let hs = c.loop-i.held.items in
    let i = c.loop-i.i - 1 in
    let inv = c.loop-i.invariant in
    let next : c.loop-i.i ≡ suc i = omega arith in
    c.remove.ensures.items
    ∙ sym (let_go_at c.args.lock hs i c.index.result.now (omega arith)
    (eq-eqb _ _ (ap (λ (h : Hold). h.lock) (sym c.index.ensures) ∙ c.if-index-lock.true))
    (subst (λ (n : ℕ). holds (drop n hs) c.args.lock ≡ false) next inv.rest))
    ∙ ap (λ v. let_go c.args.lock v.items) inv.same

pub returns : goal.returns
returns c =
    let hs = c.loop-i.held.items in
    let inv = c.loop-i.invariant in
    let none : c.loop-i.i ≡ 0 = omega arith in
    sym (let_go_none c.args.lock hs (subst (λ (n : ℕ). holds (drop n hs) c.args.lock ≡ false) none inv.rest))
    ∙ ap (λ v. let_go c.args.lock v.items) inv.same
