use Rattle.dim_inquiry.specs.Inputs.{inputs_of}
use Rattle.dim_commands.specs.Output.{left_of}
use Rattle.dim_commands.proofs.AttemptLemmas.{AreTried, tried_left, tried_lawful, last_totals}
use Rattle.dim_commands.proofs.immunize.build.Goals as goal

pub attempted-requires : goal.attempted-requires
attempted-requires c =
    let b = c.in_ok-both.both in
    let made = c.in_ok-made.ensures in
    last_totals b.program (b.history.catalogue.sigs) c.args.s.now c.in_ok-made.made made.attempts.some made.run

pub returns-clause-left : goal.returns-clause-left
returns-clause-left c =
    let x = inputs_of c.args.inputs in
    let b = c.in_ok-both.both in
    let made = c.in_ok-made.ensures in
    let texts = c.in_ok-texts.ensures in
    let is : AreTried x c.args.s.now c.args.attempts c.in_ok-made.made b.history.names b.program b.history.catalogue.sigs =
    record {
      some = c.requires.some;
      in_range = c.law.ensures.catalogue.in_range;
      attempts = made.attempts;
      lines_are = made.lines;
      run_is = made.run;
      names_are = made.names;
      sigs_are = made.signatures;
      read = c.in_ok-both.ensures.read;
      again = texts.again;
      trace_again = texts.trace_again;
    } in
    tried_left x c.args.s.now c.args.attempts c.in_ok-made.made b.history.names b.program b.history.catalogue.sigs c.in_ok-both.ensures.names c.in_ok-both.ensures.program c.in_ok-both.ensures.loaded is
    (left_of (record { texts = c.in_ok-texts.texts; report = c.in_ok-report.report }))
    (record { history_is = texts.history; trace_is = texts.trace; report_is = c.in_ok-report.ensures })

pub returns-clause-lawful : goal.returns-clause-lawful
returns-clause-lawful c =
    let x = inputs_of c.args.inputs in
    let b = c.in_ok-both.both in
    let made = c.in_ok-made.ensures in
    let texts = c.in_ok-texts.ensures in
    let is : AreTried x c.args.s.now c.args.attempts c.in_ok-made.made b.history.names b.program b.history.catalogue.sigs =
    record {
      some = c.requires.some;
      in_range = c.law.ensures.catalogue.in_range;
      attempts = made.attempts;
      lines_are = made.lines;
      run_is = made.run;
      names_are = made.names;
      sigs_are = made.signatures;
      read = c.in_ok-both.ensures.read;
      again = texts.again;
      trace_again = texts.trace_again;
    } in
    tried_lawful x c.args.s.now c.args.attempts c.in_ok-made.made c.grows_law.ensures.all b.history.names b.program b.history.catalogue.sigs c.in_ok-both.ensures.names c.in_ok-both.ensures.program c.in_ok-both.ensures.loaded is
