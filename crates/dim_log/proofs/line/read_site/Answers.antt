use Rattle.std.proofs.Common.{arith}
use Rattle.dim_text.specs.Cuts.{words_of}
use Rattle.dim_log.proofs.Framing.{next_fewer, text_same}
use Rattle.dim_log.proofs.line.read_site.Goals as goal

pub returns-clause-few : goal.returns-clause-few
returns-clause-few c =
    omega (arith, next_fewer c.args.words.now c.next_word.new.self c.in_ok-lock.lock.now c.in_ok-lock.ensures, text_same c.next_word.new.self (words_of c.in_ok-frames.frames.now) c.in_ok-frames.ensures)
