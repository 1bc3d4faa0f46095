use Rattle.dim_merge.proofs.Reading.{is_read}
use Rattle.dim_merge.proofs.sources.read_at.Goals as goal

pub returns-in-Ok-clause-read : goal.returns-in-Ok-clause-read
returns-in-Ok-clause-read c = is_read c.in-Ok.history c.in-Ok.ensures.names c.in-Ok.ensures.history
