use Rattle.std.proofs.Common.{◌≡◌, subst, inl, inr, arith}
use Rattle.std.proofs.lemmas.Bool.{cases_lt}
use Rattle.dim_cover.specs.Shelf.{IsVacant}
use Rattle.dim_cover.proofs.shelf.is_vacant.Goals as goal

pub loop-depth-init : goal.loop-depth-init
loop-depth-init c = λ d some lt. absurd (omega (arith, some, lt))

pub loop-depth-preserved : goal.loop-depth-preserved
loop-depth-preserved c = λ d some lt. elim (cases_lt d c.loop-depth.depth) [
  | inl low ↦ c.loop-depth.invariant d some low
  | inr high ↦ subst (λ n. IsVacant c.args.shelf.now c.args.stack.now n) (let e : c.loop-depth.depth ≡ d = omega (arith, high, lt) in e) (c.is_vacant_at.ensures c.if-not-is_vacant_at.false)
]

pub returns : goal.returns
returns c = λ t d some le. c.loop-depth.invariant d some (omega (arith, le, c.loop-depth-test.false))
