use Rattle.dim_run.proofs.Grown.{numbered_at, grown_at}
use Rattle.dim_run.proofs.closing.finish.Goals as goal

pub count_yields-requires : goal.count_yields-requires
count_yields-requires c =
    record { numbered = numbered_at c.totals-totals.new.self c.finish-tables.result.0 c.finish-tables.result.1.sigs c.finish-tables.ensures.tables c.finish-tables.ensures.known c.finish-tables.ensures.legal }

pub returns-clause-grown : goal.returns-clause-grown
returns-clause-grown c =
    grown_at c.args.gate c.totals-totals.new.self c.finish-tables.result.0 c.finish-tables.result.1.sigs c.count_yields.new.catalogue.sigs c.totals-totals.ensures.gate c.finish-tables.ensures.tables c.finish-tables.ensures.known c.count_yields.ensures
