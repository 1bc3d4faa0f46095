use Rattle.std.proofs.Common.{◌∙◌}
use Rattle.dim_inquiry.specs.Inputs.{inputs_of}
use Rattle.dim_commands.proofs.BuildLemmas.{IsPlayed, is_played, trace_is, history_is, report_is, lawful_is}
use Rattle.dim_commands.proofs.run.build.Goals as goal

-- what was played is of the inputs
played_is : (c : goal.In_ok-output) → IsPlayed (inputs_of c.args.inputs) c.args.s.now c.in_ok-made.made.names c.in_ok-made.made.program c.in_ok-both.both.history.catalogue.sigs c.in_ok-made.made.run.tables.entries
played_is c =
    let b = c.in_ok-both.both in
    let m = c.in_ok-made.made in
    let of_both = c.in_ok-both.ensures in
    let of_made = c.in_ok-made.ensures in
    is_played (inputs_of c.args.inputs) c.args.s.now m.names m.program b.history.catalogue.sigs m.run.tables.entries (of_made.made.names_is ∙ of_both.names) (of_made.made.program_is ∙ of_both.program) of_both.loaded of_made.entries

pub returns-clause-history : goal.returns-clause-history
returns-clause-history c =
    let m = c.in_ok-made.made in
    c.in_ok-output.ensures.history
    ∙ history_is (inputs_of c.args.inputs) c.args.s.now m.names m.program c.in_ok-both.both.history.catalogue.sigs m.run.catalogue.sigs m.run.tables.entries (played_is c) c.in_ok-made.ensures.made.whole.run_is.known_are

pub returns-clause-trace : goal.returns-clause-trace
returns-clause-trace c =
    let m = c.in_ok-made.made in
    c.in_ok-output.ensures.trace ∙ trace_is (inputs_of c.args.inputs) c.args.s.now m.names m.program c.in_ok-both.both.history.catalogue.sigs m.run.tables.entries (played_is c)

pub returns-clause-report : goal.returns-clause-report
returns-clause-report c =
    let m = c.in_ok-made.made in
    let whole = c.in_ok-made.ensures.made.whole in
    c.in_ok-output.ensures.report
    ∙ report_is (inputs_of c.args.inputs) c.args.s.now m.names m.program c.in_ok-both.both.history.catalogue.sigs m.run.catalogue.sigs m.run.tables.entries m.run.outcome m.run.ends.items (played_is c) whole.run_is.known_are whole.run_is.outcome_is whole.run_is.ends_are

pub returns-clause-lawful : goal.returns-clause-lawful
returns-clause-lawful c =
    let m = c.in_ok-made.made in
    let loaded = c.in_ok-both.both.history.catalogue.sigs in
    let whole = c.in_ok-made.ensures.made.whole in
    lawful_is (inputs_of c.args.inputs) c.args.s.now m.names m.program loaded m.run.catalogue.sigs m.run.tables.entries (played_is c) whole.run_is.known_are c.in_ok-both.ensures.read whole.traceable.executes whole.immune whole.complete c.in_ok-output.ensures.again
    (c.in_ok-output.ensures.trace_again loaded whole.traceable)
