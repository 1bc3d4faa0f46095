use Rattle.dim_asm.proofs.Texts.{text_back, text_again}
use Rattle.dim_asm.proofs.laws.text_law.Goals as goal

pub returns-clause-text : goal.returns-clause-text
returns-clause-text c bytes p e = (text_back bytes p e).text

pub returns-clause-printable : goal.returns-clause-printable
returns-clause-printable c bytes p e = (text_back bytes p e).printable

pub returns-clause-own : goal.returns-clause-own
returns-clause-own c bytes p e = (text_back bytes p e).own

pub returns-clause-again : goal.returns-clause-again
returns-clause-again c = text_again
