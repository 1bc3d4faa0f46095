use Rattle.dim_trace.proofs.Moving.{spelled_back}
use Rattle.dim_trace.proofs.reading.read_kept.Goals as goal

pub returns-clause-text : goal.returns-clause-text
returns-clause-text c = (spelled_back c.args.program.now c.args.names.now c.args.bytes.now c.in_ok-reader.reader.trace c.in_ok-reader.ensures).1

pub returns-clause-trace : goal.returns-clause-trace
returns-clause-trace c = (spelled_back c.args.program.now c.args.names.now c.args.bytes.now c.in_ok-reader.reader.trace c.in_ok-reader.ensures).0
