use Rattle.dim_trace.proofs.Retracing.{at_start}
use Rattle.dim_trace.proofs.retrace.Retrace.new.Goals as goal

pub returns-clause-machines : goal.returns-clause-machines
returns-clause-machines c = at_start _ _ _ c.in_ok-machines.ensures
