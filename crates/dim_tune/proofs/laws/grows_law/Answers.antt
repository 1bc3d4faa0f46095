use Rattle.dim_tune.proofs.Grows.{all_law, law, prefix_law}
use Rattle.dim_tune.proofs.laws.grows_law.Goals as goal

pub returns-clause-grows : goal.returns-clause-grows
returns-clause-grows c = law c.grown_law.ensures c.known_law.ensures

pub returns-clause-prefix : goal.returns-clause-prefix
returns-clause-prefix c = prefix_law (law c.grown_law.ensures c.known_law.ensures)

pub returns-clause-all : goal.returns-clause-all
returns-clause-all c = all_law (law c.grown_law.ensures c.known_law.ensures)
