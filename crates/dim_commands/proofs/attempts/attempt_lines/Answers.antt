use Rattle.std.proofs.Common.{◌+◌, ◌++◌, get_or, sym, ap, ◌∙◌}
use Rattle.std.proofs.lemmas.Option.{slice_get-get_or}
use Rattle.dim_run.specs.declared.playing.Outcome.TheVariants.{Finished}
use Rattle.dim_tune.specs.declared.attempt.Attempt.{Attempt}
use Rattle.dim_inquiry.specs.Report.{by_number}
use Rattle.dim_commands.specs.Immunize.{attempt_line}
use Rattle.dim_inquiry.proofs.Exports.{by_number_from}
use Rattle.dim_commands.proofs.attempts.attempt_lines.Goals as goal

pub loop-i-init : goal.loop-i-init
unfolding by_number
loop-i-init c = c.new-text.ensures.bytes

pub loop-i-preserved : goal.loop-i-preserved
loop-i-preserved c =
    let attempts = c.args.attempts.now in
    let i = c.loop-i.i in
    let d : Attempt = record { outcome = Finished; learnt = 0 } in
    let x = get_or attempts i d in
    c.in_ok-put_attempt.ensures
    ∙ ap (λ s. s ++ attempt_line (i + 1) x) c.loop-i.invariant
    ∙ sym (by_number_from attempt_line 1 attempts i x (slice_get-get_or attempts i d c.loop-i-test.true))
