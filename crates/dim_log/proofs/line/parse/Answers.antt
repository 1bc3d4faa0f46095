use Rattle.std.proofs.Common.{arith, ap, length}
use Rattle.dim_log.proofs.Framing.{next_fewer}
use Rattle.dim_log.proofs.line.parse.Goals as goal

pub returns-clause-few : goal.returns-clause-few
returns-clause-few c =
    let one = next_fewer c.of-words.result c.next_word.new.self c.in_ok-thread.thread.now c.in_ok-thread.ensures in
    let two = next_fewer c.next_word.new.self c.next_word-2.new.self c.in_ok-next_word.field-0.now c.in_ok-next_word.ensures in
    omega (arith, ap length c.of-words.ensures, one, two, c.in_ok-deed.ensures.few)
