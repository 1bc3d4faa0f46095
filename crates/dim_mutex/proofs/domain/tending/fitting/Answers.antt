use Rattle.dim_mutex.proofs.Watching.{fresh_watches}
use Rattle.dim_mutex.proofs.domain.tending.fitting.Goals as goal

pub returns-clause-watches : goal.returns-clause-watches
returns-clause-watches c = fresh_watches c.args.gate.now.entries c.threads-threads.result c.locks-locks.result c.new.result c.new.ensures
