use Rattle.std.proofs.Common.{ap, ◌∙◌}
use Rattle.std.specs.Io.KnownBytes.{append_known}
use Rattle.dim_merge.specs.Course.{course}
use Rattle.dim_merge.specs.Ending.{sink_at}
use Rattle.dim_merge.proofs.Going.{ends_err, ends_ok}
use Rattle.dim_merge.proofs.program.merge_files.Goals as goal

pub returns-in-Ok-clause-ends : goal.returns-in-Ok-clause-ends
returns-in-Ok-clause-ends g c =
    λ files told.
    let old = sink_at g.S.Sink c.args.out.now in
    ends_ok (course files c.args.words.now) files c.put_report.result (g.F.Files.told c.perform.new.files) old (sink_at g.S.Sink c.put_report.new.out) c.in-Ok.report
    (c.in-Ok.ensures.performs files told) (λ e. c.put_report.ensures.done e ∙ ap (append_known old.taken) c.as_slice.ensures) c.put_report.ensures.known

pub returns-in-Err-clause-ends : goal.returns-in-Err-clause-ends
returns-in-Err-clause-ends g c =
    λ files told.
    ends_err (course files c.args.words.now) files c.put_stop.result (g.F.Files.told c.perform.new.files) (sink_at g.S.Sink c.args.out.now) (sink_at g.S.Sink c.put_stop.new.out) c.in-Err.stop
    (c.in-Err.ensures.performs files told) c.put_stop.ensures.stopped
