use Rattle.std.proofs.Common.{ℕ, List, Some, ap, ◌∙◌}
use Rattle.dim_base.specs.Files.{Named, with_file}
use Rattle.dim_words.specs.Commands.{check_words}
use Rattle.dim_inquiry.specs.Course.{after_calls}
use Rattle.dim_inquiry.specs.Judging.{given_of, judged_course}
use Rattle.picture.proofs.draw.draw.Goals as goal

pub returns : goal.returns
returns g c files told =
    let ran = c.in_ok-given.ensures.runs files told in
    let read : Named = after_calls (judged_course files (check_words c.args.command.now.judged)).calls files in
    record {
      given = given_of c.in_ok-given.given;
      first = c.in_ok-from.from;
      behind = c.in_ok-from.to;
      judged = ran.0;
      number = c.len-count.ensures;
      range = c.in_ok-from.ensures;
      files = c.in_ok-store.ensures read ran.1 ∙ ap (λ (text : List ℕ). Some (with_file read c.args.command.now.picture.now (Some text))) c.in_ok-text.ensures;
    }
