use Rattle.std.proofs.Common.{◌∙◌}
use Rattle.dim_inquiry.specs.Inputs.{inputs_of}
use Rattle.dim_commands.proofs.LiveLemmas.{IsRun, lived_by}
use Rattle.dim_commands.proofs.living.build_live.Goals as goal

pub returns : goal.returns
returns g c =
    let loaded = c.in_ok-both.both.history.catalogue.sigs in
    let made = c.in_ok-made.made in
    let run = made.run in
    let x = inputs_of c.args.inputs in
    let whole = c.in_ok-made.ensures.made.whole in
    let output = c.in_ok-output.ensures in
    let is : IsRun x c.args.s.now made.names made.program loaded run.catalogue.sigs run.tables.entries run.outcome run.ends.items (g.H.House.count c.args.house.now) (g.H.House.count c.lived.new.house) =
    record {
      known_are = whole.run_is.known_are;
      read = c.in_ok-both.ensures.read;
      executes = whole.traceable.executes;
      immune = whole.immune;
      complete = whole.complete;
      again = output.again;
      trace_again = output.trace_again loaded whole.traceable;
      outcome_is = whole.run_is.outcome_is;
      ends_are = whole.run_is.ends_are;
      counted = c.in_ok-made.ensures.count;
    } in
    record {
      lived =
          lived_by x c.args.s.now run.catalogue.sigs run.tables.entries run.outcome run.ends.items (g.H.House.count c.args.house.now) (g.H.House.count c.lived.new.house) c.in_ok-output.output.texts.new_history c.in_ok-output.output.texts.trace c.in_ok-output.output.report
          made.names made.program loaded (c.in_ok-made.ensures.made.names_is ∙ c.in_ok-both.ensures.names) (c.in_ok-made.ensures.made.program_is ∙ c.in_ok-both.ensures.program) c.in_ok-both.ensures.loaded is output.history output.trace output.report;
    }
