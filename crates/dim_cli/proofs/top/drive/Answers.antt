use Rattle.std.proofs.Common.{◌≡◌, Some, sym, ap, ◌∙◌, subst}
use Rattle.std.specs.Option.{option_map}
use Rattle.std.specs.Prelude.{option_and_then}
use Rattle.dim_words.specs.Commands.{asked, run_words}
use Rattle.dim_words.specs.Found.{asked_line}
use Rattle.dim_words.specs.Words.{RunWords, Live, command_of}
use Rattle.dim_cli.specs.Sinks.{sink_at}
use Rattle.dim_cli.specs.Top.{AnswersLive, files_at}
use Rattle.dim_cli.proofs.DriveLemmas.{answered_live, same_live, wanting_live}
use Rattle.dim_cli.proofs.top.drive.Goals as goal

pub returns-in-Err-clause-live : goal.returns-in-Err-clause-live
returns-in-Err-clause-live g c = λ w is.
    wanting_live c.put_memory.result (files_at g.F.Files c.args.files.now) (sink_at g.S.Sink c.args.out.now) (sink_at g.S.Sink c.put_memory.new.out) c.put_memory.ensures.status c.put_memory.ensures.put c.verdict_law.ensures.found w (g.H.House.count c.args.house.now)

pub returns-in-Some-Live-clause-live : goal.returns-in-Some-Live-clause-live
returns-in-Some-Live-clause-live g c = λ w is.
    let v = run_words c.in-Some-Live.command in
    let words = c.args.words.now in
    let has : Some (Live v) ≡ command_of words =
    sym (ap (option_map asked) (c.in-Some-Live.is ∙ ap Some c.in-Some-Live.field-0-is)) ∙ c.command.ensures.command ∙ sym (ap (option_and_then asked_line) c.in-Some.is) ∙ c.in-Ok.ensures in
    let old = files_at g.F.Files c.args.files.now in
    let new = files_at g.F.Files c.run_live-ended.new.files in
    let was = sink_at g.S.Sink c.args.out.now in
    let now = sink_at g.S.Sink c.conclude.new.out in
    let count = g.H.House.count c.args.house.now in
    let count' = g.H.House.count c.run_live-ended.new.house in
    let lived = c.run_live-ended.ensures in
    let done = c.conclude.ensures in
    subst (λ (u : RunWords). AnswersLive u c.conclude.result old new was now count count') (same_live w v (command_of words) has is)
    (answered_live c.verdict_law.ensures.found v c.run_live-ended.result c.conclude.result old new was now count count' lived.lives lived.words lived.cause done.concludes done.wanting done.known)
