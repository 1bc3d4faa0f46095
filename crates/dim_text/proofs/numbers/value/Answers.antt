use Rattle.std.proofs.Common.{◌<◌, ◌*◌, ◌+◌, ◌-◌, get_or, drop, arith}
use Rattle.std.proofs.lemmas.Bool.Decides.{nat_tests}
use Rattle.dim_text.specs.Numerals.{value_of}
use Rattle.dim_text.proofs.Digits.{value_after-drop, value_after_ge}
use Rattle.dim_text.proofs.numbers.value.Goals as goal

pub returns-in_err-value : goal.returns-in_err-value
returns-in_err-value c =
    let i = c.loop-digit.digit-index in
    let next = 10 * c.loop-digit.value + (get_or c.args.digits.now i 0 - 48) in
    let far : c.args.max < next = grind (arith, nat_tests, c.in_err-value.ensures) in
    let above : c.args.max < value_of c.args.digits.now = omega (
      arith,
      far,
      c.loop-digit.invariant.same,
      value_after-drop c.args.digits.now i c.loop-digit.value (omega arith),
      value_after_ge (drop (i + 1) c.args.digits.now) next,
    ) in
    grind (arith, nat_tests, c.from_residual.ensures, above)
