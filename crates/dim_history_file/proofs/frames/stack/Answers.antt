use Rattle.std.proofs.Common.{◌≡◌, ◌≤◌, Ok, length, map, arith, ap, sym, ◌∙◌}
use Rattle.dim_text.specs.Cuts.{words_of}
use Rattle.dim_history_file.specs.Value.{named_frame, named_stack}
use Rattle.dim_history_file.specs.Judging.{frames_of}
use Rattle.dim_history_file.proofs.Moving.{some_words}
use Rattle.dim_history_file.proofs.Using.{stack_read}
use Rattle.dim_history_file.proofs.frames.stack.Goals as goal

pub new-requires-clause-some : goal.new-requires-clause-some
new-requires-clause-some c = omega (arith, some_words c.args.line.now, ap length c.as_slice.ensures.value, c.in-Ok.ensures.len, ap length c.words.ensures)

pub returns-in-Ok-clause-value : goal.returns-in-Ok-clause-value
returns-in-Ok-clause-value c =
    let names = c.args.names.now in
    let words = words_of c.args.line.now in
    let few : length c.words.result ≤ 32 = omega (arith, ap length c.as_slice.ensures.value, c.as_slice.ensures.fits, c.in-Ok.ensures.len) in
    let read : frames_of words ≡ Ok (named_stack names c.new.result) =
    ap frames_of (sym c.words.ensures) ∙ c.in-Ok.ensures.value few ∙ ap (λ fs. Ok (map (named_frame names) fs)) (sym (c.new.ensures ∙ c.as_slice.ensures.value)) in
    stack_read words (named_stack names c.new.result) read (omega (arith, few, ap length c.words.ensures))
