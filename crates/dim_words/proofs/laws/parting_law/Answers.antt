use Rattle.dim_words.proofs.WordPlaces.{parting_law}
use Rattle.dim_words.proofs.laws.parting_law.Goals as goal

pub returns : goal.returns
returns c = parting_law
