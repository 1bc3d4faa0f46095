use Rattle.dim_picture.proofs.Documented.{document_law}
use Rattle.dim_picture.proofs.laws.document_law.Goals as goal

pub returns : goal.returns
returns c = document_law
