use Rattle.dim_inquiry.proofs.ReadNames.{is_read}
use Rattle.dim_inquiry.proofs.inputs.read_history.Goals as goal

pub returns-in-Ok-clause-names : goal.returns-in-Ok-clause-names
returns-in-Ok-clause-names c = is_read c.in-Ok.history c.in-Ok.ensures.names c.in-Ok.ensures.history c.in-Ok.ensures.near
