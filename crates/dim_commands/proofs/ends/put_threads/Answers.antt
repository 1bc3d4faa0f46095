use Rattle.std.proofs.Common.{◌++◌, take, get_or, sym, ap, ◌∙◌, append-nil, append_assoc}
use Rattle.std.specs.String.{string_bytes}
use Rattle.std.proofs.lemmas.Option.{slice_get-get_or}
use Rattle.std.specs.Prelude.{pos}
use Rattle.dim_run.specs.declared.finish.Finish.TheVariants.{Done}
use Rattle.dim_run.specs.declared.finish.Last.{Last}
use Rattle.dim_inquiry.specs.Report.{by_number}
use Rattle.dim_commands.specs.Report.{thread_line}
use Rattle.dim_inquiry.proofs.Exports.{by_number_more}
use Rattle.dim_commands.proofs.ends.put_threads.Goals as goal

pub loop-t-init : goal.loop-t-init
unfolding by_number
loop-t-init c = sym (append-nil (string_bytes c.args.text.now))

pub loop-t-preserved : goal.loop-t-preserved
loop-t-preserved c =
    let ends = c.args.ends.now in
    let t = c.loop-t.t in
    let d : Last = record { finish = Done; said = 0; last = pos 0 } in
    let line = thread_line c.args.program.now in
    let x = get_or ends t d in
    let head = string_bytes c.args.text.now in
    c.in_ok-put_thread.ensures
    ∙ ap (λ s. s ++ line t x) c.loop-t.invariant
    ∙ append_assoc head (by_number line 0 (take t ends)) (line t x)
    ∙ ap (λ s. head ++ s) (sym (by_number_more line ends t x (slice_get-get_or ends t d c.loop-t-test.true)))
