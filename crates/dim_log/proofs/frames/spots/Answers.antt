use Rattle.std.proofs.Common.{length, arith, ap}
use Rattle.std.specs.Str.{bytes_eq}
use Rattle.dim_text.specs.Cuts.{words_of}
use Rattle.dim_log.specs.Seen.{said_frame}
use Rattle.dim_log.proofs.Once.{new_length}
use Rattle.dim_log.proofs.Framing.{spots_step}
use Rattle.dim_log.proofs.frames.spots.Goals as goal

pub loop-word-preserved : goal.loop-word-preserved
loop-word-preserved c =
    let i = c.loop-word.invariant in
    let f = c.loop-word.functions in
    let g = c.spot.new.functions in
    let s = c.in_ok-spot.field-0 in
    let step = spots_step (words_of c.args.text.now) c.loop-word.words c.next_part.new.self c.in-Some.word.now c.args.functions.now f g c.loop-word.spots.items c.push.new.self.items s
    i.same c.in-Some.ensures c.in_ok-spot.ensures.value c.in_ok-push.ensures.items c.in_ok-spot.ensures.functions i.within c.in_ok-spot.ensures.within i.functions in
    record {
      same = step.0;
      functions = step.1;
      within = step.2;
      room = omega (arith, i.room, ap length c.in-Some.ensures, ap length c.in_ok-spot.ensures.functions, new_length bytes_eq f (said_frame g s).function);
    }
