use Rattle.dim_trace.proofs.Verdicts.{yes_where}
use Rattle.dim_trace.proofs.checking.check_kept.Goals as goal

pub returns-clause-yes : goal.returns-clause-yes
returns-clause-yes c =
    yes_where c.verdict_law.ensures.one _ _ c.args.program.now _ _ c.args.trace.now.entries c.verdict.result c.in_ok-retrace.ensures.constants c.in_ok-retrace.ensures.fuel c.verdict.ensures
