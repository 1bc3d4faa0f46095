use Rattle.dim_run.proofs.Rested.{none_found}
use Rattle.dim_run.proofs.settling.unknown_cycle.Goals as goal

pub returns-then-not-may_have_cycles : goal.returns-then-not-may_have_cycles
returns-then-not-may_have_cycles c = none_found c.args.gate.now c.args.monitor.now c.graph.result.now c.graph.ensures c.requires.twin (c.may_have_cycles.ensures c.if-not-may_have_cycles.true)
