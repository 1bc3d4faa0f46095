use Rattle.dim_execution.specs.Start.{gate_of}
use Rattle.dim_trace.specs.Grammar.{AreSettings}
use Rattle.dim_trace.specs.Laws.{AreMade}
use Rattle.dim_commands.specs.Lawful.{trace_value}
use Rattle.dim_commands.proofs.texts.texts_of.Goals as goal

pub returns-clause-trace_again : goal.returns-clause-trace_again
returns-clause-trace_again c =
    λ loaded is.
    let p = c.args.program.now in
    let names = c.args.history.now.names in
    let t = trace_value c.args.s.now c.args.tables.now.entries in
    let s = c.requires.settings in
    let sigs = is.loaded.in_range in
    let settings : AreSettings t = record { some_fuel = s.some_fuel; few_fuel = s.fuel; some_depth = s.some_depth; few_depth = s.depth } in
    let made : AreMade (gate_of p loaded t.depth) p t.fuel t.entries = record {
      few = is.few;
      sets = c.in_ok-trace.ensures.sets;
      legal = is.executes.legal;
      walks = is.executes.walks;
    } in
    let each = c.entries_law.ensures p names loaded t.depth t.fuel t.entries c.law.ensures c.requires.bound sigs is.few_loaded made in
    record {
      short = c.length_law.ensures p names loaded t c.law.ensures c.law-2.ensures.table c.requires.bound sigs is.few_loaded settings made;
      again = c.reading_law.ensures p names t c.law.ensures c.law-2.ensures.table record { settings = settings; entries = record { few = is.few; each = each } };
    }
