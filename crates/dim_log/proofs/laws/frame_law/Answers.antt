use Rattle.std.proofs.Common.{sym, ◌∙◌}
use Rattle.dim_log.proofs.Spelled.{frame_ok, text_ok}
use Rattle.dim_log.proofs.laws.frame_law.Goals as goal

pub returns-clause-frame : goal.returns-clause-frame
returns-clause-frame c word f e = frame_ok word f e

pub returns-clause-stack : goal.returns-clause-stack
returns-clause-stack c a b stack e h = text_ok a stack e ∙ sym (text_ok b stack h)
