use Rattle.std.proofs.Common.{length, arith}
use Rattle.std.proofs.lemmas.Bool.Decides.{nat_tests}
use Rattle.dim_text.proofs.Digits.{digit_fits}
use Rattle.dim_text.proofs.numbers.short_value.Goals as goal

pub overflow_mul-value : goal.overflow_mul-value
overflow_mul-value c =
    let room = digit_fits c.loop-byte.value c.loop-byte.byte-index (length c.args.word.now) c.loop-byte.invariant.small (omega arith) c.requires in
    omega (arith, room)

pub overflow_add-value : goal.overflow_add-value
overflow_add-value c =
    let room = digit_fits c.loop-byte.value c.loop-byte.byte-index (length c.args.word.now) c.loop-byte.invariant.small (omega arith) c.requires in
    grind (arith, nat_tests, room, c.from.ensures, c.is_ascii_digit.ensures)
