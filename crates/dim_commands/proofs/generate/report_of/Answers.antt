use Rattle.std.proofs.Common.{subst, IfOk, ◌≡◌, ◌∙◌}
use Rattle.dim_inquiry.specs.declared.report.Report.{Report}
use Rattle.dim_inquiry.specs.Inputs.{inputs_of}
use Rattle.dim_commands.proofs.BuildLemmas.{IsPlayed, is_played, report_is}
use Rattle.dim_commands.proofs.generate.report_of.Goals as goal

pub returns : goal.returns
returns c =
    let x = inputs_of c.args.inputs in
    let loaded = c.in_ok-both.both.history.catalogue.sigs in
    let made = c.in_ok-made.made in
    let run = made.run in
    let whole = c.in_ok-made.ensures.made.whole in
    let is : IsPlayed x c.args.s.now made.names made.program loaded run.tables.entries =
    is_played x c.args.s.now made.names made.program loaded run.tables.entries (c.in_ok-made.ensures.made.names_is ∙ c.in_ok-both.ensures.names) (c.in_ok-made.ensures.made.program_is ∙ c.in_ok-both.ensures.program) c.in_ok-both.ensures.loaded c.in_ok-made.ensures.entries in
    subst (λ (z : Report). IfOk c.ran.result (λ (r : Report). r ≡ z))
    (report_is x c.args.s.now made.names made.program loaded run.catalogue.sigs run.tables.entries run.outcome run.ends.items is whole.run_is.known_are whole.run_is.outcome_is whole.run_is.ends_are)
    c.ran.ensures
