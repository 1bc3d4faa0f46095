use Rattle.std.proofs.Common.{arith, ap, length, refl}
use Rattle.std.specs.Str.{bytes_eq}
use Rattle.dim_log.proofs.Once.{new_length}
use Rattle.dim_log.proofs.reader.Reader.take_site.Goals as goal

pub returns-clause-taken : goal.returns-clause-taken
returns-clause-taken c = record {
  stack_is = c.in_ok-stack.ensures.numbered;
  texts = omega (arith, ap length c.in_ok-stack.ensures.texts, new_length bytes_eq c.args.self.now.stacks.texts c.args.site.now.frames.now);
  lock_is = c.in_ok-lock.ensures.word;
  lock_within = c.in_ok-lock.ensures.within;
  locks = c.in_ok-lock.ensures.words;
  threads = refl;
  events = refl;
}
